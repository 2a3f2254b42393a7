-- A printed tree is the spelling of the tree, with a space before each token.
use Rattle.std.proofs.Common.{◌≡◌, ℕ, pos, negsuc, List, [], ◌∷◌, ◌++◌, refl, ap, ◌∙◌, append_assoc, map}
use Rattle.asl_grammar.specs.declared.token.Mark.TheVariants as mark
use Rattle.asl_grammar.specs.Token.{Token, Fixed, Name}
use Rattle.asl_grammar.specs.Spelling.{later_names_on, names_on, line_on, stmt_on, block_on, else_on, item_on, program_on}
use Rattle.asl_syntax.specs.Tree.{Value, IntegerValue, NullValue, LocalValue, BinaryValue, GlobalValue, FieldValue, LoadValue, NewValue, CallValue, Statement, AssignStatement, StoreStatement, OutStatement, IfStatement, WhileStatement, AtomicStatement, Block, NoMore, Then, Function, Item, GlobalItem, FunctionItem}
use Rattle.asl_syntax.specs.Spelled.{stmt_meaning, block_meaning, else_meaning, item_meaning, line_meaning, Spells}
use Rattle.asl_syntax.specs.Writing.{assign_writing, statement_writing, block_writing, else_writing, item_writing, writing}
use Rattle.asl_syntax.specs.Printed.{spaced, piece}
use Rattle.asl_syntax.specs.Pieces.{mark_piece, later_names_bytes, names_bytes, value_bytes, statement_bytes, block_bytes, if_head, while_head, else_open, else_close, head_bytes, last_line_bytes, item_bytes, items_bytes}

-- writing a tree and taking its meaning gives the tree
assign_back : (x : List ℕ) (v : Value) → line_meaning (assign_writing x v) ≡ AssignStatement x v
assign_back x (IntegerValue (pos n)) = refl
assign_back x (IntegerValue (negsuc n)) = refl
assign_back x NullValue = refl
assign_back x (LocalValue y) = refl
assign_back x (BinaryValue y o z) = refl
assign_back x (GlobalValue y) = refl
assign_back x (FieldValue y n) = refl
assign_back x (LoadValue y) = refl
assign_back x (NewValue n) = refl
assign_back x (CallValue f args) = refl

mutual
  statement_back : (s : Statement) → stmt_meaning (statement_writing s) ≡ s
  statement_back (AssignStatement x v) = assign_back x v
  statement_back (StoreStatement x y) = refl
  statement_back (OutStatement x) = refl
  statement_back (IfStatement x a b) =
      ap (λ (c : Block). IfStatement x c (else_meaning (else_writing b))) (block_back a)
      ∙ ap (λ (c : Block). IfStatement x a c) (else_back b)
  statement_back (WhileStatement x a) = ap (WhileStatement x) (block_back a)
  statement_back (AtomicStatement a) = ap AtomicStatement (block_back a)

  block_back : (b : Block) → block_meaning (block_writing b) ≡ b
  block_back NoMore = refl
  block_back (Then s b) =
      ap (λ (t : Statement). Then t (block_meaning (block_writing b))) (statement_back s)
      ∙ ap (Then s) (block_back b)

  else_back : (b : Block) → else_meaning (else_writing b) ≡ b
  else_back NoMore = refl
  else_back (Then s b) =
      ap (λ (t : Statement). Then t (block_meaning (block_writing b))) (statement_back s)
      ∙ ap (Then s) (block_back b)

item_back : (i : Item) → item_meaning (item_writing i) ≡ i
item_back (GlobalItem x) = refl
item_back (FunctionItem f) =
    ap (λ (b : Block). FunctionItem (record { name = f.name; parameters = f.parameters; body = b; returned = f.returned })) (block_back f.body)

items_back : (is : List Item) → map item_meaning (writing is) ≡ is
items_back [] = refl
items_back (i ∷ is) =
    ap (λ (j : Item). j ∷ map item_meaning (writing is)) (item_back i) ∙ ap (λ (js : List Item). i ∷ js) (items_back is)

-- a tree's own writing spells it
pub writing_spells : (tree : List Item) → Spells tree (program_on (writing tree) [])
writing_spells tree = record { written = writing tree; meaning = items_back tree; spelled = refl }

-- printing writes the tokens of that writing
later_names_spaced : (xs : List (List ℕ)) (r : List Token) → later_names_bytes xs ++ spaced r ≡ spaced (later_names_on xs r)
later_names_spaced [] r = refl
later_names_spaced (x ∷ xs) r =
    simp (append_assoc) (ap (λ (bs : List ℕ). mark_piece mark.Comma ++ (piece x ++ bs)) (later_names_spaced xs r))

names_spaced : (xs : List (List ℕ)) (r : List Token) → names_bytes xs ++ spaced r ≡ spaced (names_on xs r)
names_spaced [] r = refl
names_spaced (x ∷ xs) r = simp (append_assoc) (ap (λ (bs : List ℕ). piece x ++ bs) (later_names_spaced xs r))

-- an assignment, its `;` too
assign_spaced : (x : List ℕ) (v : Value) (r : List Token) → (piece x ++ (mark_piece mark.Becomes ++ value_bytes v)) ++ spaced r ≡ spaced (line_on (assign_writing x v) r)
assign_spaced x (IntegerValue (pos n)) r = simp (append_assoc)
assign_spaced x (IntegerValue (negsuc n)) r = simp (append_assoc)
assign_spaced x NullValue r = simp (append_assoc)
assign_spaced x (LocalValue y) r = simp (append_assoc)
assign_spaced x (BinaryValue y o z) r = simp (append_assoc)
assign_spaced x (GlobalValue y) r = simp (append_assoc)
assign_spaced x (FieldValue y n) r = simp (append_assoc)
assign_spaced x (LoadValue y) r = simp (append_assoc)
assign_spaced x (NewValue n) r = simp (append_assoc)
assign_spaced x (CallValue f args) r =
    simp (append_assoc) (ap (λ (bs : List ℕ). piece x ++ (mark_piece mark.Becomes ++ (piece f ++ (mark_piece mark.OpenParen ++ bs)))) (names_spaced args (Fixed mark.CloseParen ∷ r)))

if_head_spaced : (x : List ℕ) (r : List Token) → if_head x ++ spaced r ≡ spaced (Fixed mark.If ∷ Name x ∷ Fixed mark.OpenBrace ∷ r)
if_head_spaced x r = simp (append_assoc)

while_head_spaced : (x : List ℕ) (r : List Token) → while_head x ++ spaced r ≡ spaced (Fixed mark.While ∷ Name x ∷ Fixed mark.OpenBrace ∷ r)
while_head_spaced x r = simp (append_assoc)

last_line_spaced : (x : List ℕ) (r : List Token) → last_line_bytes x ++ spaced r ≡ spaced (Fixed mark.Return ∷ Name x ∷ Fixed mark.Semicolon ∷ Fixed mark.CloseBrace ∷ r)
last_line_spaced x r = simp (append_assoc)

head_spaced : (f : Function) (r : List Token) → head_bytes f ++ spaced r ≡ spaced (Fixed mark.Fn ∷ Name f.name ∷ Fixed mark.OpenParen ∷ names_on f.parameters (Fixed mark.CloseParen ∷ Fixed mark.OpenBrace ∷ r))
head_spaced f r =
    let closing : List ℕ = mark_piece mark.CloseParen ++ mark_piece mark.OpenBrace in
    ap (λ (bs : List ℕ). mark_piece mark.Fn ++ (32 ∷ bs)) (append_assoc f.name (mark_piece mark.OpenParen ++ (names_bytes f.parameters ++ closing)) (spaced r) ∙ ap (λ (bs : List ℕ). f.name ++ (mark_piece mark.OpenParen ++ bs)) (append_assoc (names_bytes f.parameters) closing (spaced r) ∙ names_spaced f.parameters (Fixed mark.CloseParen ∷ Fixed mark.OpenBrace ∷ r)))

mutual
  statement_spaced : (s : Statement) (r : List Token) → statement_bytes s ++ spaced r ≡ spaced (stmt_on (statement_writing s) r)
  statement_spaced (AssignStatement x v) r =
      simp (append_assoc) (simp (append_assoc) at (assign_spaced x v (Fixed mark.Semicolon ∷ r)))
  statement_spaced (StoreStatement x y) r = simp (append_assoc)
  statement_spaced (OutStatement x) r = simp (append_assoc)
  statement_spaced (IfStatement x a b) r =
      append_assoc (if_head x) (block_bytes a ++ (else_open b ++ (block_bytes b ++ else_close b))) (spaced r)
      ∙ ap (λ (bs : List ℕ). if_head x ++ bs) (append_assoc (block_bytes a) (else_open b ++ (block_bytes b ++ else_close b)) (spaced r) ∙ ap (λ (bs : List ℕ). block_bytes a ++ bs) (append_assoc (else_open b) (block_bytes b ++ else_close b) (spaced r) ∙ ap (λ (bs : List ℕ). else_open b ++ bs) (append_assoc (block_bytes b) (else_close b) (spaced r)) ∙ else_spaced b r) ∙ block_spaced a (Fixed mark.CloseBrace ∷ else_on (else_writing b) r))
      ∙ if_head_spaced x (block_on (block_writing a) (Fixed mark.CloseBrace ∷ else_on (else_writing b) r))
  statement_spaced (WhileStatement x a) r =
      append_assoc (while_head x) (block_bytes a ++ mark_piece mark.CloseBrace) (spaced r)
      ∙ ap (λ (bs : List ℕ). while_head x ++ bs) (append_assoc (block_bytes a) (mark_piece mark.CloseBrace) (spaced r) ∙ block_spaced a (Fixed mark.CloseBrace ∷ r))
      ∙ while_head_spaced x (block_on (block_writing a) (Fixed mark.CloseBrace ∷ r))
  statement_spaced (AtomicStatement a) r =
      ap (λ (bs : List ℕ). mark_piece mark.Atomic ++ (mark_piece mark.OpenBrace ++ bs)) (append_assoc (block_bytes a) (mark_piece mark.CloseBrace) (spaced r) ∙ block_spaced a (Fixed mark.CloseBrace ∷ r))

  block_spaced : (b : Block) (r : List Token) → block_bytes b ++ spaced r ≡ spaced (block_on (block_writing b) r)
  block_spaced NoMore r = refl
  block_spaced (Then s b) r =
      append_assoc (statement_bytes s) (block_bytes b) (spaced r)
      ∙ ap (λ (bs : List ℕ). statement_bytes s ++ bs) (block_spaced b r)
      ∙ statement_spaced s (block_on (block_writing b) r)

  else_spaced : (b : Block) (r : List Token) → else_open b ++ (block_bytes b ++ (else_close b ++ spaced r)) ≡ spaced (Fixed mark.CloseBrace ∷ else_on (else_writing b) r)
  else_spaced NoMore r = refl
  else_spaced (Then s b) r =
      ap (λ (bs : List ℕ). mark_piece mark.CloseBrace ++ (mark_piece mark.Else ++ (mark_piece mark.OpenBrace ++ bs))) (append_assoc (statement_bytes s) (block_bytes b) (mark_piece mark.CloseBrace ++ spaced r) ∙ ap (λ (bs : List ℕ). statement_bytes s ++ bs) (block_spaced b (Fixed mark.CloseBrace ∷ r)) ∙ statement_spaced s (block_on (block_writing b) (Fixed mark.CloseBrace ∷ r)))

item_spaced : (i : Item) (r : List Token) → item_bytes i ++ spaced r ≡ spaced (item_on (item_writing i) r)
item_spaced (GlobalItem x) r = simp (append_assoc)
item_spaced (FunctionItem f) r =
    let after : List Token = Fixed mark.Return ∷ Name f.returned ∷ Fixed mark.Semicolon ∷ Fixed mark.CloseBrace ∷ r in
    append_assoc (head_bytes f) (block_bytes f.body ++ last_line_bytes f.returned) (spaced r)
    ∙ ap (λ (bs : List ℕ). head_bytes f ++ bs) (append_assoc (block_bytes f.body) (last_line_bytes f.returned) (spaced r) ∙ ap (λ (bs : List ℕ). block_bytes f.body ++ bs) (last_line_spaced f.returned r) ∙ block_spaced f.body after)
    ∙ head_spaced f (block_on (block_writing f.body) after)

-- what is printed is the tree's own writing, each token after a space
pub items_spaced : (is : List Item) (r : List Token) → items_bytes is ++ spaced r ≡ spaced (program_on (writing is) r)
items_spaced [] r = refl
items_spaced (i ∷ is) r =
    append_assoc (item_bytes i) (items_bytes is) (spaced r)
    ∙ ap (λ (bs : List ℕ). item_bytes i ++ bs) (items_spaced is r)
    ∙ item_spaced i (program_on (writing is) r)

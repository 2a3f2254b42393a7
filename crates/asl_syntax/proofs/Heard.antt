-- The names that are read from the tokens of a tree are those that the tree mentions, and do the same.
use Rattle.std.proofs.Common.{◌≡◌, ℕ, suc, List, [], ◌∷◌, ◌++◌, true, false, length, refl, sym, ap, ◌∙◌, map, append_assoc}
use Rattle.asl_grammar.specs.declared.token.Mark.TheVariants as mark
use Rattle.asl_grammar.specs.declared.control.Operator.TheVariants.{Add, Subtract, IsLess, IsEqual}
use Rattle.asl_grammar.specs.Token.{Token, Fixed, Name}
use Rattle.asl_grammar.specs.Written as w
use Rattle.asl_grammar.specs.Spelling.{later_names_on, names_on, line_on, stmt_on, block_on, else_on, function_on, item_on, program_on}
use Rattle.asl_syntax.specs.declared.words.Before.TheVariants.{Plain, Head}
use Rattle.asl_syntax.specs.Tree.{Item}
use Rattle.asl_syntax.specs.Mentions.{Mention, DeclaresFunction, DeclaresParameter, AssignsLocal, UsesLocal, CallsFunction, statement_mentions, block_mentions, function_mentions, item_mentions, mentions}
use Rattle.asl_syntax.specs.Spelled.{line_meaning, stmt_meaning, block_meaning, else_meaning, function_meaning, item_meaning, Spells}
use Rattle.asl_syntax.specs.Heard.{names_to_close, heard}

-- ---- names with commas between

later_count : (xs : List (List ℕ)) (ts : List Token) → names_to_close (later_names_on xs (Fixed mark.CloseParen ∷ ts)) ≡ length xs
later_count [] ts = refl
later_count (x ∷ xs) ts = ap suc (later_count xs ts)

all_count : (xs : List (List ℕ)) (ts : List Token) → names_to_close (names_on xs (Fixed mark.CloseParen ∷ ts)) ≡ length xs
all_count [] ts = refl
all_count (x ∷ xs) ts = ap suc (later_count xs ts)

-- arguments are used
later_uses : (x : List ℕ) (xs : List (List ℕ)) (ts : List Token) → heard Plain (Name x ∷ later_names_on xs (Fixed mark.CloseParen ∷ ts)) ≡ UsesLocal x ∷ (map UsesLocal xs ++ heard Plain ts)
later_uses x [] ts = refl
later_uses x (y ∷ ys) ts = ap (λ (ms : List Mention). UsesLocal x ∷ ms) (later_uses y ys ts)

all_uses : (xs : List (List ℕ)) (ts : List Token) → heard Plain (names_on xs (Fixed mark.CloseParen ∷ ts)) ≡ map UsesLocal xs ++ heard Plain ts
all_uses [] ts = refl
all_uses (x ∷ xs) ts = later_uses x xs ts

-- parameters are declared, up to the brace of the body
later_parameters : (xs : List (List ℕ)) (ts : List Token) → heard Head (later_names_on xs (Fixed mark.CloseParen ∷ Fixed mark.OpenBrace ∷ ts)) ≡ map DeclaresParameter xs ++ heard Plain ts
later_parameters [] ts = refl
later_parameters (x ∷ xs) ts = ap (λ (ms : List Mention). DeclaresParameter x ∷ ms) (later_parameters xs ts)

all_parameters : (xs : List (List ℕ)) (ts : List Token) → heard Head (names_on xs (Fixed mark.CloseParen ∷ Fixed mark.OpenBrace ∷ ts)) ≡ map DeclaresParameter xs ++ heard Plain ts
all_parameters [] ts = refl
all_parameters (x ∷ xs) ts = ap (λ (ms : List Mention). DeclaresParameter x ∷ ms) (later_parameters xs ts)

-- ---- statements

line_heard : (l : w.Line) (ts : List Token) → heard Plain (line_on l (Fixed mark.Semicolon ∷ ts)) ≡ statement_mentions (line_meaning l) ++ heard Plain ts
line_heard (w.Assigns x (w.Literal true n)) ts = refl
line_heard (w.Assigns x (w.Literal false n)) ts = refl
line_heard (w.Assigns x w.NullValue) ts = refl
line_heard (w.Assigns x (w.Copied y)) ts = refl
line_heard (w.Assigns x (w.Binary y Add z)) ts = refl
line_heard (w.Assigns x (w.Binary y Subtract z)) ts = refl
line_heard (w.Assigns x (w.Binary y IsLess z)) ts = refl
line_heard (w.Assigns x (w.Binary y IsEqual z)) ts = refl
line_heard (w.Assigns x (w.GlobalAddress y)) ts = refl
line_heard (w.Assigns x (w.FieldAddress y n)) ts = refl
line_heard (w.Assigns x (w.Loaded y)) ts = refl
line_heard (w.Assigns x (w.Created n)) ts = refl
line_heard (w.Calls x f args) ts =
    ap (λ (n : ℕ). AssignsLocal x ∷ CallsFunction f n ∷ heard Plain (names_on args (Fixed mark.CloseParen ∷ Fixed mark.Semicolon ∷ ts))) (all_count args (Fixed mark.Semicolon ∷ ts))
    ∙ ap (λ (ms : List Mention). AssignsLocal x ∷ CallsFunction f (length args) ∷ ms) (all_uses args (Fixed mark.Semicolon ∷ ts))
line_heard (w.Stores x y) ts = refl
line_heard (w.Shows x) ts = refl

-- the names of two parts
two_parts : (ms ns rs : List Mention) → ms ++ (ns ++ rs) ≡ (ms ++ ns) ++ rs
two_parts ms ns rs = sym (append_assoc ms ns rs)

mutual
  stmt_heard : (s : w.Stmt) (ts : List Token) → heard Plain (stmt_on s ts) ≡ statement_mentions (stmt_meaning s) ++ heard Plain ts
  stmt_heard (w.Simple l) ts = line_heard l ts
  stmt_heard (w.IfStmt x a e) ts =
      ap (λ (ms : List Mention). UsesLocal x ∷ ms) (block_heard a (Fixed mark.CloseBrace ∷ else_on e ts) ∙ ap (λ (ms : List Mention). block_mentions (block_meaning a) ++ ms) (else_heard e ts) ∙ two_parts (block_mentions (block_meaning a)) (block_mentions (else_meaning e)) (heard Plain ts))
  stmt_heard (w.WhileStmt x a) ts =
      ap (λ (ms : List Mention). UsesLocal x ∷ ms) (block_heard a (Fixed mark.CloseBrace ∷ ts))
  stmt_heard (w.AtomicStmt a) ts = block_heard a (Fixed mark.CloseBrace ∷ ts)

  block_heard : (b : w.Block) (ts : List Token) → heard Plain (block_on b ts) ≡ block_mentions (block_meaning b) ++ heard Plain ts
  block_heard w.End ts = refl
  block_heard (w.More s b) ts =
      stmt_heard s (block_on b ts)
      ∙ ap (λ (ms : List Mention). statement_mentions (stmt_meaning s) ++ ms) (block_heard b ts)
      ∙ two_parts (statement_mentions (stmt_meaning s)) (block_mentions (block_meaning b)) (heard Plain ts)

  else_heard : (e : w.Else) (ts : List Token) → heard Plain (else_on e ts) ≡ block_mentions (else_meaning e) ++ heard Plain ts
  else_heard w.NoElse ts = refl
  else_heard (w.Otherwise b) ts = block_heard b (Fixed mark.CloseBrace ∷ ts)

-- ---- items

function_heard : (f : w.Function) (ts : List Token) → heard Plain (function_on f ts) ≡ function_mentions (function_meaning f) ++ heard Plain ts
function_heard f ts =
    let body : List Mention = block_mentions (block_meaning f.body) in
    let last : List Mention = UsesLocal f.returned ∷ [] in
    let own : List Mention = map DeclaresParameter f.parameters in
    let after : List Token = Fixed mark.Return ∷ Name f.returned ∷ Fixed mark.Semicolon ∷ Fixed mark.CloseBrace ∷ ts in
    ap (λ (ms : List Mention). DeclaresFunction f.name ∷ ms) (all_parameters f.parameters (block_on f.body after) ∙ ap (λ (ms : List Mention). own ++ ms) (block_heard f.body after ∙ two_parts body last (heard Plain ts)) ∙ two_parts own (body ++ last) (heard Plain ts))

item_heard : (i : w.Item) (ts : List Token) → heard Plain (item_on i ts) ≡ item_mentions (item_meaning i) ++ heard Plain ts
item_heard (w.GlobalItem x) ts = refl
item_heard (w.FunctionItem f) ts = function_heard f ts

items_heard : (is : List w.Item) → heard Plain (program_on is []) ≡ mentions (map item_meaning is)
items_heard [] = refl
items_heard (i ∷ is) =
    item_heard i (program_on is []) ∙ ap (λ (ms : List Mention). item_mentions (item_meaning i) ++ ms) (items_heard is)

-- the names of the tokens of a tree are its mentions
pub all_heard : (tree : List Item) (ts : List Token) → Spells tree ts → heard Plain ts ≡ mentions tree
all_heard tree ts s =
    ap (heard Plain) (sym s.spelled) ∙ items_heard s.written ∙ ap mentions s.meaning

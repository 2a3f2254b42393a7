-- A tree mentions the names of its tokens, one by one.
use Rattle.std.proofs.Common.{◌≡◌, ℕ, suc, List, [], ◌∷◌, ◌++◌, Bool, true, false, cond, Option, Some, None, length, refl, sym, ap, ◌∙◌, map, append_assoc, arith}
use Rattle.std.proofs.lemmas.Bool.{cond-false}
use Rattle.std.proofs.lemmas.List.{map-append}
use Rattle.asl_grammar.specs.declared.token.Mark.TheVariants as mark
use Rattle.asl_grammar.specs.Token.{Token, Fixed, Name, Number, Spot}
use Rattle.asl_grammar.specs.Grammar.{bare}
use Rattle.asl_grammar.specs.Written as w
use Rattle.asl_grammar.specs.Spelling.{later_names_on, names_on, line_on, stmt_on, block_on, else_on, function_on, item_on, program_on}
use Rattle.asl_syntax.specs.Tree.{Item}
use Rattle.asl_syntax.specs.Mentions.{Mention, DeclaresParameter, UsesLocal, statement_mentions, block_mentions, function_mentions, item_mentions, mentions}
use Rattle.asl_syntax.specs.Rules.{Counts, is_wrong_call, wrong_call_from, wrong_call, parameter_counts, name_place, name_places}
use Rattle.asl_syntax.specs.Spelled.{line_meaning, stmt_meaning, block_meaning, else_meaning, function_meaning, item_meaning, Spells}
use Rattle.asl_syntax.specs.TokenNames.{token_names, mention_name}

abbrev Names : Type 0
Names = List (List ℕ)

abbrev named : List Mention → Names
named ms = map mention_name ms

-- names with commas between
later_names : (xs : Names) (ts : List Token) → token_names (later_names_on xs ts) ≡ xs ++ token_names ts
later_names [] ts = refl
later_names (x ∷ xs) ts = ap (λ (ys : Names). x ∷ ys) (later_names xs ts)

all_names : (xs : Names) (ts : List Token) → token_names (names_on xs ts) ≡ xs ++ token_names ts
all_names [] ts = refl
all_names (x ∷ xs) ts = ap (λ (ys : Names). x ∷ ys) (later_names xs ts)

named_uses : (xs : Names) → named (map UsesLocal xs) ≡ xs
named_uses [] = refl
named_uses (x ∷ xs) = ap (λ (ys : Names). x ∷ ys) (named_uses xs)

named_parameters : (xs : Names) → named (map DeclaresParameter xs) ≡ xs
named_parameters [] = refl
named_parameters (x ∷ xs) = ap (λ (ys : Names). x ∷ ys) (named_parameters xs)

line_names : (l : w.Line) (ts : List Token) → token_names (line_on l ts) ≡ named (statement_mentions (line_meaning l)) ++ token_names ts
line_names (w.Assigns x (w.Literal true n)) ts = refl
line_names (w.Assigns x (w.Literal false n)) ts = refl
line_names (w.Assigns x w.NullValue) ts = refl
line_names (w.Assigns x (w.Copied y)) ts = refl
line_names (w.Assigns x (w.Binary y o z)) ts = refl
line_names (w.Assigns x (w.GlobalAddress y)) ts = refl
line_names (w.Assigns x (w.FieldAddress y n)) ts = refl
line_names (w.Assigns x (w.Loaded y)) ts = refl
line_names (w.Assigns x (w.Created n)) ts = refl
line_names (w.Calls x f args) ts =
    ap (λ (ys : Names). x ∷ f ∷ ys) (all_names args (Fixed mark.CloseParen ∷ ts) ∙ ap (λ (ys : Names). ys ++ token_names ts) (sym (named_uses args)))
line_names (w.Stores x y) ts = refl
line_names (w.Shows x) ts = refl

-- the names of two parts
both_named : (ms ns : List Mention) (r : Names) → named ms ++ (named ns ++ r) ≡ named (ms ++ ns) ++ r
both_named ms ns r =
    sym (append_assoc (named ms) (named ns) r) ∙ ap (λ (ys : Names). ys ++ r) (sym (map-append mention_name ms ns))

mutual
  stmt_names : (s : w.Stmt) (ts : List Token) → token_names (stmt_on s ts) ≡ named (statement_mentions (stmt_meaning s)) ++ token_names ts
  stmt_names (w.Simple l) ts = line_names l (Fixed mark.Semicolon ∷ ts)
  stmt_names (w.IfStmt x a e) ts =
      ap (λ (ys : Names). x ∷ ys) (block_names a (Fixed mark.CloseBrace ∷ else_on e ts) ∙ ap (λ (ys : Names). named (block_mentions (block_meaning a)) ++ ys) (else_names e ts) ∙ both_named (block_mentions (block_meaning a)) (block_mentions (else_meaning e)) (token_names ts))
  stmt_names (w.WhileStmt x a) ts =
      ap (λ (ys : Names). x ∷ ys) (block_names a (Fixed mark.CloseBrace ∷ ts))
  stmt_names (w.AtomicStmt a) ts = block_names a (Fixed mark.CloseBrace ∷ ts)

  block_names : (b : w.Block) (ts : List Token) → token_names (block_on b ts) ≡ named (block_mentions (block_meaning b)) ++ token_names ts
  block_names w.End ts = refl
  block_names (w.More s b) ts =
      stmt_names s (block_on b ts)
      ∙ ap (λ (ys : Names). named (statement_mentions (stmt_meaning s)) ++ ys) (block_names b ts)
      ∙ both_named (statement_mentions (stmt_meaning s)) (block_mentions (block_meaning b)) (token_names ts)

  else_names : (e : w.Else) (ts : List Token) → token_names (else_on e ts) ≡ named (block_mentions (else_meaning e)) ++ token_names ts
  else_names w.NoElse ts = refl
  else_names (w.Otherwise b) ts = block_names b (Fixed mark.CloseBrace ∷ ts)

function_names : (f : w.Function) (ts : List Token) → token_names (function_on f ts) ≡ named (function_mentions (function_meaning f)) ++ token_names ts
function_names f ts =
    let body : List Mention = block_mentions (block_meaning f.body) in
    let last : List Mention = UsesLocal f.returned ∷ [] in
    let after : List Token = Fixed mark.Return ∷ Name f.returned ∷ Fixed mark.Semicolon ∷ Fixed mark.CloseBrace ∷ ts in
    ap (λ (ys : Names). f.name ∷ ys) (all_names f.parameters (Fixed mark.CloseParen ∷ Fixed mark.OpenBrace ∷ block_on f.body after) ∙ ap (λ (ys : Names). f.parameters ++ ys) (block_names f.body after ∙ both_named body last (token_names ts)) ∙ ap (λ (ys : Names). ys ++ (named (body ++ last) ++ token_names ts)) (sym (named_parameters f.parameters)) ∙ both_named (map DeclaresParameter f.parameters) (body ++ last) (token_names ts))

item_names : (i : w.Item) (ts : List Token) → token_names (item_on i ts) ≡ named (item_mentions (item_meaning i)) ++ token_names ts
item_names (w.GlobalItem x) ts = refl
item_names (w.FunctionItem f) ts = function_names f ts

items_names : (is : List w.Item) → token_names (program_on is []) ≡ named (mentions (map item_meaning is))
items_names [] = refl
items_names (i ∷ is) =
    item_names i (program_on is [])
    ∙ ap (λ (ys : Names). named (item_mentions (item_meaning i)) ++ ys) (items_names is)
    ∙ sym (map-append mention_name (item_mentions (item_meaning i)) (mentions (map item_meaning is)))

-- the tokens of a tree have the names that it mentions, in order
pub mentioned : (tree : List Item) (ts : List Token) → Spells tree ts → token_names ts ≡ map mention_name (mentions tree)
mentioned tree ts s =
    ap token_names (sym s.spelled) ∙ items_names s.written ∙ ap (λ (t : List Item). named (mentions t)) s.meaning

-- as many places as names
one_place : (t : Token) (at : ℕ) (ps : List ℕ) (ts : List Token) → length ps ≡ length (token_names ts) → length (name_place t at ps) ≡ length (token_names (t ∷ ts))
one_place (Fixed m) at ps ts e = e
one_place (Name x) at ps ts e = ap suc e
one_place (Number n) at ps ts e = e

pub places_names : (ss : List Spot) → length (name_places ss) ≡ length (token_names (bare ss))
places_names [] = refl
places_names (s ∷ ss) = one_place s.token s.at (name_places ss) (bare ss) (places_names ss)

-- no call is wrong, at whatever places
no_wrong : (b : Bool) (at : ℕ) (o : Option ℕ) → cond b (Some at) o ≡ None → (b ≡ false) × (o ≡ None)
no_wrong true at o e = cc
no_wrong false at o e = (refl, e)

right_anywhere : (counts : Counts) (ms : List Mention) (ps qs : List ℕ) → length ps ≡ length qs → wrong_call_from counts ms ps ≡ None → wrong_call_from counts ms qs ≡ None
right_anywhere counts [] ps qs l e = refl
right_anywhere counts (m ∷ ms) [] [] l e = refl
right_anywhere counts (m ∷ ms) [] (q ∷ qs) l e = absurd (omega arith)
right_anywhere counts (m ∷ ms) (p ∷ ps) [] l e = refl
right_anywhere counts (m ∷ ms) (p ∷ ps) (q ∷ qs) l e =
    let n = no_wrong (is_wrong_call counts m) p (wrong_call_from counts ms ps) e in
    cond-false (is_wrong_call counts m) _ _ n.0 ∙ right_anywhere counts ms ps qs (omega arith) n.1

pub arity_kept : (tree : List Item) (ss rs : List Spot) → Spells tree (bare ss) → Spells tree (bare rs) → wrong_call tree ss ≡ None → wrong_call tree rs ≡ None
arity_kept tree ss rs p q h =
    let e : length (token_names (bare ss)) ≡ length (token_names (bare rs)) = ap length (mentioned tree (bare ss) p ∙ sym (mentioned tree (bare rs) q)) in
    right_anywhere (parameter_counts tree) (mentions tree) (name_places ss) (name_places rs) (places_names ss ∙ e ∙ sym (places_names rs)) h

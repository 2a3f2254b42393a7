-- The numbers of a tree are in their ranges exactly where those among its tokens are.
use Rattle.std.proofs.Common.{◌≡◌, ◌↔◌, ℕ, zero, suc, ◌<◌, ◌≤◌, List, [], ◌∷◌, true, false, None, ◌==◌, ◌||◌, nat_lt, map, refl, arith}
use Rattle.std.specs.List.{AllByRecursion}
use Rattle.std.proofs.lemmas.Bool.{ltb-false, le-ltb, eqb-false, ne_eqb, or_parts, or_from}
use Rattle.asl_grammar.specs.declared.token.Mark.TheVariants as mark
use Rattle.asl_grammar.specs.Token.{Token, Fixed}
use Rattle.asl_grammar.specs.Written as w
use Rattle.asl_grammar.specs.Spelling.{later_names_on, names_on, line_on, stmt_on, block_on, else_on, program_on}
use Rattle.asl_syntax.specs.Tree.{Function, functions_of}
use Rattle.asl_syntax.specs.Spelled.{line_meaning, stmt_meaning, block_meaning, else_meaning, item_meaning}
use Rattle.asl_syntax.specs.WithinLimits.{HasNumbersInRange, AreNumbersInRange}
use Rattle.asl_syntax.proofs.EachLimit.{NumbersPass}
use Rattle.asl_syntax.proofs.LimitCounts.{after_body}

-- ---- lines

later_names_pass : (xs : List (List ℕ)) (rest : List Token) → NumbersPass (later_names_on xs rest) None ↔ NumbersPass rest None
later_names_pass [] rest = (λ h. h, λ h. h)
later_names_pass (x ∷ xs) rest = later_names_pass xs rest

names_pass : (xs : List (List ℕ)) (rest : List Token) → NumbersPass (names_on xs rest) None ↔ NumbersPass rest None
names_pass [] rest = (λ h. h, λ h. h)
names_pass (x ∷ xs) rest = later_names_pass xs rest

-- tokens before others have numbers in their ranges exactly where P
abbrev Says : Type 0 → List Token → List Token → Type 0
Says P ts rest = NumbersPass ts None ↔ (P × NumbersPass rest None)

some_size : (n : ℕ) → (n == 0 || nat_lt 255 n) ≡ false → (1 ≤ n) × (n ≤ 255)
some_size n e =
    let k = or_parts (n == 0) (nat_lt 255 n) e in
    let some : n ≡ 0 → ⊥ = eqb-false n 0 k.0 in
    (omega (arith, some), ltb-false 255 n k.1)

size_pass : (n : ℕ) → (1 ≤ n) × (n ≤ 255) → (n == 0 || nat_lt 255 n) ≡ false
size_pass n h =
    let some : n ≡ 0 → ⊥ = omega (arith, h.0) in
    or_from (n == 0) (nat_lt 255 n) (ne_eqb n 0 some) (le-ltb 255 n h.1)

line_says : (l : w.Line) (rest : List Token) → Says (HasNumbersInRange (line_meaning l)) (line_on l (Fixed mark.Semicolon ∷ rest)) rest
line_says (w.Assigns x (w.Literal true zero)) rest =
    let low : 0 < 2147483648 = omega arith in
    (λ h. (record { sfits = low }, h.1), λ h. (refl, h.1))
line_says (w.Assigns x (w.Literal true (suc n))) rest = (
  λ h. (let low : n < 2147483648 = omega (arith, ltb-false 2147483648 (suc n) h.0) in (record { sfits = low }, h.1)),
  λ h. (let low : n < 2147483648 = h.0.sfits in (le-ltb 2147483648 (suc n) (omega (arith, low)), h.1)),
)
line_says (w.Assigns x (w.Literal false n)) rest = (
  λ h. (let low : n < 2147483648 = omega (arith, ltb-false 2147483647 n h.0) in (record { sfits = low }, h.1)),
  λ h. (let low : n < 2147483648 = h.0.sfits in (le-ltb 2147483647 n (omega (arith, low)), h.1)),
)
line_says (w.Assigns x w.NullValue) rest = (λ h. (tt, h), λ h. h.1)
line_says (w.Assigns x (w.Copied y)) rest = (λ h. (tt, h), λ h. h.1)
line_says (w.Assigns x (w.Binary y o z)) rest = (λ h. (tt, h), λ h. h.1)
line_says (w.Assigns x (w.GlobalAddress y)) rest = (λ h. (tt, h), λ h. h.1)
line_says (w.Assigns x (w.FieldAddress y n)) rest = (λ h. (ltb-false 255 n h.0, h.1), λ h. (le-ltb 255 n h.0, h.1))
line_says (w.Assigns x (w.Loaded y)) rest = (λ h. (tt, h), λ h. h.1)
line_says (w.Assigns x (w.Created n)) rest = (λ h. (some_size n h.0, h.1), λ h. (size_pass n h.0, h.1))
line_says (w.Calls x f args) rest =
    let k = names_pass args (Fixed mark.CloseParen ∷ Fixed mark.Semicolon ∷ rest) in
    (λ h. (tt, k.0 h), λ h. k.1 h.1)
line_says (w.Stores x y) rest = (λ h. (tt, h), λ h. h.1)
line_says (w.Shows x) rest = (λ h. (tt, h), λ h. h.1)

-- ---- statements

both_say : {A B P Q R : Type 0} → A ↔ (P × B) → B ↔ (Q × R) → A ↔ ((P × Q) × R)
both_say p q = (λ a. (let h = p.0 a in let k = q.0 h.1 in ((h.0, k.0), k.1)), λ c. p.1 (c.0.0, q.1 (c.0.1, c.1)))

mutual
  stmt_says : (s : w.Stmt) (rest : List Token) → Says (HasNumbersInRange (stmt_meaning s)) (stmt_on s rest) rest
  stmt_says (w.Simple l) rest = line_says l rest
  stmt_says (w.IfStmt x a e) rest = both_say (block_says a (Fixed mark.CloseBrace ∷ else_on e rest)) (else_says e rest)
  stmt_says (w.WhileStmt x a) rest = block_says a (Fixed mark.CloseBrace ∷ rest)
  stmt_says (w.AtomicStmt a) rest = block_says a (Fixed mark.CloseBrace ∷ rest)

  block_says : (b : w.Block) (rest : List Token) → Says (AreNumbersInRange (block_meaning b)) (block_on b rest) rest
  block_says w.End rest = (λ h. (tt, h), λ h. h.1)
  block_says (w.More s b) rest = both_say (stmt_says s (block_on b rest)) (block_says b rest)

  else_says : (e : w.Else) (rest : List Token) → Says (AreNumbersInRange (else_meaning e)) (else_on e rest) rest
  else_says w.NoElse rest = (λ h. (tt, h), λ h. h.1)
  else_says (w.Otherwise b) rest = block_says b (Fixed mark.CloseBrace ∷ rest)

-- ---- items

pub numbers_in_range : (is : List w.Item) → NumbersPass (program_on is []) None ↔ AllByRecursion (λ (f : Function). AreNumbersInRange f.body) (functions_of (map item_meaning is))
numbers_in_range [] = (λ h. h, λ h. h)
numbers_in_range (w.GlobalItem x ∷ is) = numbers_in_range is
numbers_in_range (w.FunctionItem f ∷ is) =
    let k = numbers_in_range is in
    let after = after_body f.returned (program_on is []) in
    let h = names_pass f.parameters (Fixed mark.CloseParen ∷ Fixed mark.OpenBrace ∷ block_on f.body after) in
    let b = block_says f.body after in
    (λ e. (let p = b.0 (h.0 e) in (p.0, k.0 p.1)), λ e. h.1 (b.1 (e.0, k.1 e.1)))

-- The functions of a program within the limits have few parameters, and each `new` makes a cell.
use Rattle.std.proofs.Common.{◌≡◌, ℕ, suc, ◌+◌, ◌<◌, ◌≤◌, Bool, true, false, ◌||◌, ◌==◌, Some, None, nat_lt, List, [], ◌∷◌, length, map, refl, sym, ap, ◌∙◌, subst, arith}
use Rattle.std.proofs.lemmas.Bool.{false≢true, leb-false, eqb-false}
use Rattle.asl_grammar.specs.declared.token.Mark.TheVariants as mark
use Rattle.asl_grammar.specs.Token.{Token, Fixed, Name, Number, Spot}
use Rattle.asl_grammar.specs.Written as w
use Rattle.asl_grammar.specs.Spelling.{symbol_of, later_names_on, names_on, right_on, line_on, stmt_on, block_on, else_on, program_on}
use Rattle.asl_grammar.specs.Lex.{tokens_of}
use Rattle.asl_grammar.specs.Grammar.{bare}
use Rattle.asl_syntax.specs.Tree.{Function, Item, functions_of}
use Rattle.asl_syntax.specs.Limit.{tally_of, is_over, is_fifth, one_more, names_in_head, limit_from, byte_over}
use Rattle.asl_syntax.specs.Spelled.{right_meaning, line_meaning, stmt_meaning, block_meaning, else_meaning, item_meaning}
use Rattle.asl_syntax.specs.Parsed.{IsParsed}
use Rattle.asl_lower.proofs.Named.{ValueCells, StmtCells, BlockCells}
use Rattle.asl_syntax.proofs.Few.{goes_on}
use Rattle.asl_syntax.proofs.Made.{none_first}

-- no token goes past a limit
abbrev NoneOver : List Token → List Token → Type 0
NoneOver before [] = Unit {0}
NoneOver before (t ∷ ts) = (is_over (tally_of before) t ≡ false) × NoneOver (t ∷ before) ts

none_over : (before : List Token) (ss : List Spot) → limit_from before ss ≡ None → NoneOver before (bare ss)
none_over before [] e = tt
none_over before (s ∷ ss) e =
    let k = goes_on (is_over (tally_of before) s.token) s.at (limit_from (s.token ∷ before) ss) e in
    (k.0, none_over (s.token ∷ before) ss k.1)

-- so it is of the tokens after a part of the program
abbrev Passed : List Token → Type 0
Passed rest = (before : List Token) × NoneOver before rest

later_names_passed : (xs : List (List ℕ)) (rest before : List Token) → NoneOver before (later_names_on xs rest) → Passed rest
later_names_passed [] rest before h = (before, h)
later_names_passed (x ∷ xs) rest before h = later_names_passed xs rest (Name x ∷ Fixed mark.Comma ∷ before) h.1.1

names_passed : (xs : List (List ℕ)) (rest before : List Token) → NoneOver before (names_on xs rest) → Passed rest
names_passed [] rest before h = (before, h)
names_passed (x ∷ xs) rest before h = later_names_passed xs rest (Name x ∷ before) h.1

right_passed : (r : w.Right) (rest before : List Token) → NoneOver before (right_on r rest) → Passed rest
right_passed (w.Literal true n) rest before h = (Number n ∷ Fixed mark.Minus ∷ before, h.1.1)
right_passed (w.Literal false n) rest before h = (Number n ∷ before, h.1)
right_passed w.NullValue rest before h = (Fixed mark.Null ∷ before, h.1)
right_passed (w.Copied y) rest before h = (Name y ∷ before, h.1)
right_passed (w.Binary y o z) rest before h = (Name z ∷ Fixed (symbol_of o) ∷ Name y ∷ before, h.1.1.1)
right_passed (w.GlobalAddress y) rest before h = (Name y ∷ Fixed mark.Ampersand ∷ before, h.1.1)
right_passed (w.FieldAddress y n) rest before h =
    (Fixed mark.CloseBracket ∷ Number n ∷ Fixed mark.OpenBracket ∷ Name y ∷ Fixed mark.Ampersand ∷ before, h.1.1.1.1.1)
right_passed (w.Loaded y) rest before h = (Name y ∷ Fixed mark.Star ∷ before, h.1.1)
right_passed (w.Created n) rest before h = (Number n ∷ Fixed mark.New ∷ before, h.1.1)

line_passed : (l : w.Line) (rest before : List Token) → NoneOver before (line_on l rest) → Passed rest
line_passed (w.Assigns x r) rest before h = right_passed r rest (Fixed mark.Becomes ∷ Name x ∷ before) h.1.1
line_passed (w.Calls x f args) rest before h =
    let a = names_passed args (Fixed mark.CloseParen ∷ rest) (Fixed mark.OpenParen ∷ Name f ∷ Fixed mark.Becomes ∷ Name x ∷ before) h.1.1.1.1 in
    (Fixed mark.CloseParen ∷ a.0, a.1.1)
line_passed (w.Stores x y) rest before h =
    (Name y ∷ Fixed mark.Becomes ∷ Name x ∷ Fixed mark.Star ∷ before, h.1.1.1.1)
line_passed (w.Shows x) rest before h = (Name x ∷ Fixed mark.Out ∷ before, h.1.1)

mutual
  stmt_passed : (s : w.Stmt) (rest before : List Token) → NoneOver before (stmt_on s rest) → Passed rest
  stmt_passed (w.Simple l) rest before h =
      let a = line_passed l (Fixed mark.Semicolon ∷ rest) before h in (Fixed mark.Semicolon ∷ a.0, a.1.1)
  stmt_passed (w.IfStmt x a e) rest before h =
      let b = block_passed a (Fixed mark.CloseBrace ∷ else_on e rest) (Fixed mark.OpenBrace ∷ Name x ∷ Fixed mark.If ∷ before) h.1.1.1 in
      else_passed e rest (Fixed mark.CloseBrace ∷ b.0) b.1.1
  stmt_passed (w.WhileStmt x a) rest before h =
      let b = block_passed a (Fixed mark.CloseBrace ∷ rest) (Fixed mark.OpenBrace ∷ Name x ∷ Fixed mark.While ∷ before) h.1.1.1 in
      (Fixed mark.CloseBrace ∷ b.0, b.1.1)
  stmt_passed (w.AtomicStmt a) rest before h =
      let b = block_passed a (Fixed mark.CloseBrace ∷ rest) (Fixed mark.OpenBrace ∷ Fixed mark.Atomic ∷ before) h.1.1 in
      (Fixed mark.CloseBrace ∷ b.0, b.1.1)

  block_passed : (b : w.Block) (rest before : List Token) → NoneOver before (block_on b rest) → Passed rest
  block_passed w.End rest before h = (before, h)
  block_passed (w.More s b) rest before h =
      let a = stmt_passed s (block_on b rest) before h in block_passed b rest a.0 a.1

  else_passed : (e : w.Else) (rest before : List Token) → NoneOver before (else_on e rest) → Passed rest
  else_passed w.NoElse rest before h = (before, h)
  else_passed (w.Otherwise b) rest before h =
      let a = block_passed b (Fixed mark.CloseBrace ∷ rest) (Fixed mark.OpenBrace ∷ Fixed mark.Else ∷ before) h.1.1 in
      (Fixed mark.CloseBrace ∷ a.0, a.1.1)

-- the names in a head are five at the most
no_second : (a b : Bool) → (a || b) ≡ false → b ≡ false
no_second true b e = absurd (false≢true (sym e))
no_second false b e = e

below_five : (before : List Token) (x : List ℕ) (n : ℕ) → names_in_head before ≡ Some n → is_over (tally_of before) (Name x) ≡ false → n < 5
below_five before x n e h =
    leb-false 5 n (ap is_fifth (sym e) ∙ no_second (nat_lt 64 (length x)) (is_fifth (names_in_head before)) h)

one_name_more : (before : List Token) (x : List ℕ) (n : ℕ) → names_in_head before ≡ Some n → names_in_head (Name x ∷ before) ≡ Some (suc n)
one_name_more before x n e = ap one_more e

later_parameters : (xs : List (List ℕ)) (rest before : List Token) (n : ℕ) → names_in_head before ≡ Some n → n ≤ 5 → NoneOver before (later_names_on xs rest) → n + length xs ≤ 5
later_parameters [] rest before n e low h = omega arith
later_parameters (x ∷ xs) rest before n e low h =
    let k = below_five (Fixed mark.Comma ∷ before) x n e h.1.0 in
    let m = later_parameters xs rest (Name x ∷ Fixed mark.Comma ∷ before) (suc n) (one_name_more (Fixed mark.Comma ∷ before) x n e) (omega arith) h.1.1 in
    omega arith

parameters_few : (xs : List (List ℕ)) (rest before : List Token) → names_in_head before ≡ Some 1 → NoneOver before (names_on xs rest) → length xs ≤ 4
parameters_few [] rest before e h = omega arith
parameters_few (x ∷ xs) rest before e h =
    let m = later_parameters xs rest (Name x ∷ before) 2 (one_name_more before x 1 e) (omega arith) h.1 in omega arith

-- each `new` makes a cell
no_first : (a b : Bool) → (a || b) ≡ false → a ≡ false
no_first true b e = e
no_first false b e = refl

some_cells : (before : List Token) (n : ℕ) → is_over (tally_of (Fixed mark.New ∷ before)) (Number n) ≡ false → 0 < n
some_cells before n h = (let k = eqb-false n 0 (no_first (n == 0) (nat_lt 255 n) h) in omega arith)

right_cells : (r : w.Right) (rest before : List Token) → NoneOver before (right_on r rest) → ValueCells (right_meaning r)
right_cells (w.Created n) rest before h = some_cells before n h.1.0
right_cells (w.Literal b n) rest before h = tt
right_cells w.NullValue rest before h = tt
right_cells (w.Copied y) rest before h = tt
right_cells (w.Binary y o z) rest before h = tt
right_cells (w.GlobalAddress y) rest before h = tt
right_cells (w.FieldAddress y n) rest before h = tt
right_cells (w.Loaded y) rest before h = tt

line_cells : (l : w.Line) (rest before : List Token) → NoneOver before (line_on l rest) → StmtCells (line_meaning l)
line_cells (w.Assigns x r) rest before h = right_cells r rest (Fixed mark.Becomes ∷ Name x ∷ before) h.1.1
line_cells (w.Calls x f args) rest before h = tt
line_cells (w.Stores x y) rest before h = tt
line_cells (w.Shows x) rest before h = tt

mutual
  stmt_cells : (s : w.Stmt) (rest before : List Token) → NoneOver before (stmt_on s rest) → StmtCells (stmt_meaning s)
  stmt_cells (w.Simple l) rest before h = line_cells l (Fixed mark.Semicolon ∷ rest) before h
  stmt_cells (w.IfStmt x a e) rest before h =
      let tail : List Token = Fixed mark.CloseBrace ∷ else_on e rest in
      let head : List Token = Fixed mark.OpenBrace ∷ Name x ∷ Fixed mark.If ∷ before in
      let b = block_passed a tail head h.1.1.1 in
      (block_cells a tail head h.1.1.1, else_cells e rest (Fixed mark.CloseBrace ∷ b.0) b.1.1)
  stmt_cells (w.WhileStmt x a) rest before h =
      block_cells a (Fixed mark.CloseBrace ∷ rest) (Fixed mark.OpenBrace ∷ Name x ∷ Fixed mark.While ∷ before) h.1.1.1
  stmt_cells (w.AtomicStmt a) rest before h =
      block_cells a (Fixed mark.CloseBrace ∷ rest) (Fixed mark.OpenBrace ∷ Fixed mark.Atomic ∷ before) h.1.1

  block_cells : (b : w.Block) (rest before : List Token) → NoneOver before (block_on b rest) → BlockCells (block_meaning b)
  block_cells w.End rest before h = tt
  block_cells (w.More s b) rest before h =
      let a = stmt_passed s (block_on b rest) before h in
      (stmt_cells s (block_on b rest) before h, block_cells b rest a.0 a.1)

  else_cells : (e : w.Else) (rest before : List Token) → NoneOver before (else_on e rest) → BlockCells (else_meaning e)
  else_cells w.NoElse rest before h = tt
  else_cells (w.Otherwise b) rest before h =
      block_cells b (Fixed mark.CloseBrace ∷ rest) (Fixed mark.OpenBrace ∷ Fixed mark.Else ∷ before) h.1.1

-- so it is of each function
pub record IsWithin (f : Function) : Type 0 where
  pub few_parameters : length f.parameters ≤ 4
  pub cells : BlockCells f.body

abbrev pub AreWithin : List Function → Type 0
AreWithin [] = Unit {0}
AreWithin (f ∷ fs) = IsWithin f × AreWithin fs

items_within : (is : List w.Item) (before : List Token) → NoneOver before (program_on is []) → AreWithin (functions_of (map item_meaning is))
items_within [] before h = tt
items_within (w.GlobalItem x ∷ is) before h =
    items_within is (Fixed mark.Semicolon ∷ Name x ∷ Fixed mark.Global ∷ before) h.1.1.1
items_within (w.FunctionItem f ∷ is) before h =
    let rest : List Token = program_on is [] in
    let tail : List Token = Fixed mark.Return ∷ Name f.returned ∷ Fixed mark.Semicolon ∷ Fixed mark.CloseBrace ∷ rest in
    let head : List Token = Fixed mark.CloseParen ∷ Fixed mark.OpenBrace ∷ block_on f.body tail in
    let opening : List Token = Fixed mark.OpenParen ∷ Name f.name ∷ Fixed mark.Fn ∷ before in
    let a = names_passed f.parameters head opening h.1.1.1 in
    let body : List Token = Fixed mark.OpenBrace ∷ Fixed mark.CloseParen ∷ a.0 in
    let b = block_passed f.body tail body a.1.1.1 in (
      record { few_parameters = parameters_few f.parameters head opening refl h.1.1.1; cells = block_cells f.body tail body a.1.1.1 },
      items_within is (Fixed mark.CloseBrace ∷ Fixed mark.Semicolon ∷ Name f.returned ∷ Fixed mark.Return ∷ b.0) b.1.1.1.1.1,
    )

pub functions_within : (tree : List Item) → IsParsed tree → AreWithin (functions_of tree)
functions_within tree p =
    let s = p.parses.spelled in
    let k : limit_from [] (tokens_of p.text) ≡ None = none_first _ (byte_over (length p.text)) s.limits in
    let P : List Token → Type 0 = NoneOver [] in
    let Q : List Item → Type 0 = λ t. AreWithin (functions_of t) in
    subst Q s.spelled.meaning (items_within s.spelled.written [] (subst P (sym s.spelled.spelled) (none_over [] (tokens_of p.text) k)))

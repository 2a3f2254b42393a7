-- A program within the limits has few globals and functions.
use Rattle.std.proofs.Common.{◌≡◌, ℕ, ◌+◌, ◌≤◌, Bool, true, false, if◌then◌else◌, List, [], ◌∷◌, Option, Some, None, length, map, refl, ap, arith}
use Rattle.std.proofs.Math.Bridge.{le_prop}
use Rattle.std.proofs.Math.Logic.{∥∥₁_elim}
use Rattle.std.proofs.lemmas.Bool.{leb-false}
use Rattle.asl_grammar.specs.declared.token.Mark.TheVariants as mark
use Rattle.asl_grammar.specs.Token.{Token, Fixed, Name, Spot}
use Rattle.asl_grammar.specs.Written as w
use Rattle.asl_grammar.specs.Spelling.{later_names_on, names_on, right_on, line_on, stmt_on, block_on, else_on, function_on, program_on}
use Rattle.asl_grammar.specs.Lex.{tokens_of}
use Rattle.asl_grammar.specs.Grammar.{bare}
use Rattle.asl_syntax.specs.Tree.{Item, globals_of, functions_of}
use Rattle.asl_syntax.specs.Limit.{functions_in, globals_in, tally_of, is_over, limit_from, byte_over}
use Rattle.asl_syntax.specs.Spelled.{item_meaning}
use Rattle.asl_syntax.specs.Parsed.{IsParsed}
use Rattle.asl_syntax.proofs.Made.{none_first}

-- what tokens weigh together
abbrev weigh : (Token → ℕ) → List Token → ℕ
weigh g [] = 0
weigh g (t ∷ ts) = g t + weigh g ts

-- tokens before others weigh no less than nothing
later_names_weigh : (g : Token → ℕ) (xs : List (List ℕ)) (rest : List Token) → weigh g rest ≤ weigh g (later_names_on xs rest)
later_names_weigh g [] rest = omega arith
later_names_weigh g (x ∷ xs) rest = omega (arith, later_names_weigh g xs rest)

names_weigh : (g : Token → ℕ) (xs : List (List ℕ)) (rest : List Token) → weigh g rest ≤ weigh g (names_on xs rest)
names_weigh g [] rest = omega arith
names_weigh g (x ∷ xs) rest = omega (arith, later_names_weigh g xs rest)

right_weighs : (g : Token → ℕ) (r : w.Right) (rest : List Token) → weigh g rest ≤ weigh g (right_on r rest)
right_weighs g (w.Literal true n) rest = omega arith
right_weighs g (w.Literal false n) rest = omega arith
right_weighs g w.NullValue rest = omega arith
right_weighs g (w.Copied y) rest = omega arith
right_weighs g (w.Binary y o z) rest = omega arith
right_weighs g (w.GlobalAddress y) rest = omega arith
right_weighs g (w.FieldAddress y n) rest = omega arith
right_weighs g (w.Loaded y) rest = omega arith
right_weighs g (w.Created n) rest = omega arith

line_weighs : (g : Token → ℕ) (l : w.Line) (rest : List Token) → weigh g rest ≤ weigh g (line_on l rest)
line_weighs g (w.Assigns x r) rest = omega (arith, right_weighs g r rest)
line_weighs g (w.Calls x f args) rest = omega (arith, names_weigh g args (Fixed mark.CloseParen ∷ rest))
line_weighs g (w.Stores x y) rest = omega arith
line_weighs g (w.Shows x) rest = omega arith

mutual
  stmt_weighs : (g : Token → ℕ) (s : w.Stmt) (rest : List Token) → weigh g rest ≤ weigh g (stmt_on s rest)
  stmt_weighs g (w.Simple l) rest = omega (arith, line_weighs g l (Fixed mark.Semicolon ∷ rest))
  stmt_weighs g (w.IfStmt x a e) rest =
      omega (arith, block_weighs g a (Fixed mark.CloseBrace ∷ else_on e rest), else_weighs g e rest)
  stmt_weighs g (w.WhileStmt x a) rest = omega (arith, block_weighs g a (Fixed mark.CloseBrace ∷ rest))
  stmt_weighs g (w.AtomicStmt a) rest = omega (arith, block_weighs g a (Fixed mark.CloseBrace ∷ rest))

  block_weighs : (g : Token → ℕ) (b : w.Block) (rest : List Token) → weigh g rest ≤ weigh g (block_on b rest)
  block_weighs g w.End rest = omega arith
  block_weighs g (w.More s b) rest = omega (arith, stmt_weighs g s (block_on b rest), block_weighs g b rest)

  else_weighs : (g : Token → ℕ) (e : w.Else) (rest : List Token) → weigh g rest ≤ weigh g (else_on e rest)
  else_weighs g w.NoElse rest = omega arith
  else_weighs g (w.Otherwise b) rest = omega (arith, block_weighs g b (Fixed mark.CloseBrace ∷ rest))

-- a function weighs its `fn` at least
function_weighs : (g : Token → ℕ) (f : w.Function) (rest : List Token) → g (Fixed mark.Fn) + weigh g rest ≤ weigh g (function_on f rest)
function_weighs g f rest =
    let tail : List Token = Fixed mark.Return ∷ Name f.returned ∷ Fixed mark.Semicolon ∷ Fixed mark.CloseBrace ∷ rest in
    let head : List Token = Fixed mark.CloseParen ∷ Fixed mark.OpenBrace ∷ block_on f.body tail in
    omega (arith, names_weigh g f.parameters head, block_weighs g f.body tail)

-- the words that limits count
abbrev is_fn : Token → ℕ
is_fn (Fixed mark.Fn) = 1
is_fn t = 0

abbrev is_global : Token → ℕ
is_global (Fixed mark.Global) = 1
is_global t = 0

functions_weigh : (is : List w.Item) → length (functions_of (map item_meaning is)) ≤ weigh is_fn (program_on is [])
functions_weigh [] = omega arith
functions_weigh (w.GlobalItem x ∷ is) = omega (arith, functions_weigh is)
functions_weigh (w.FunctionItem f ∷ is) =
    omega (arith, functions_weigh is, function_weighs is_fn f (program_on is []))

globals_weigh : (is : List w.Item) → length (globals_of (map item_meaning is)) ≤ weigh is_global (program_on is [])
globals_weigh [] = omega arith
globals_weigh (w.GlobalItem x ∷ is) = omega (arith, globals_weigh is)
globals_weigh (w.FunctionItem f ∷ is) =
    omega (arith, globals_weigh is, function_weighs is_global f (program_on is []))

-- one more token within the limits
one_more_fn : (t : Token) (before : List Token) → is_over (tally_of before) t ≡ false → functions_in before ≤ 256 → (functions_in (t ∷ before) ≡ is_fn t + functions_in before) × (functions_in (t ∷ before) ≤ 256)
one_more_fn (Fixed mark.Fn) before e h = (omega arith, omega (arith, leb-false 256 (functions_in before) e))
one_more_fn _ before e h = (omega arith, h)

one_more_global : (t : Token) (before : List Token) → is_over (tally_of before) t ≡ false → globals_in before ≤ 1024 → (globals_in (t ∷ before) ≡ is_global t + globals_in before) × (globals_in (t ∷ before) ≤ 1024)
one_more_global (Fixed mark.Global) before e h = (omega arith, omega (arith, leb-false 1024 (globals_in before) e))
one_more_global _ before e h = (omega arith, h)

-- past a test that fails
pub goes_on : {X : Type 0} (b : Bool) (x : X) (o : Option X) → (if b then Some x else o) ≡ None → (b ≡ false) × (o ≡ None)
goes_on true x o e = absurd cc
goes_on false x o e = (refl, e)

few_fn : (ss : List Spot) (before : List Token) → limit_from before ss ≡ None → functions_in before ≤ 256 → weigh is_fn (bare ss) + functions_in before ≤ 256
few_fn [] before e h = omega arith
few_fn (s ∷ ss) before e h =
    let k = goes_on (is_over (tally_of before) s.token) s.at (limit_from (s.token ∷ before) ss) e in
    let m = one_more_fn s.token before k.0 h in
    omega (arith, m.0, few_fn ss (s.token ∷ before) k.1 m.1)

few_global : (ss : List Spot) (before : List Token) → limit_from before ss ≡ None → globals_in before ≤ 1024 → weigh is_global (bare ss) + globals_in before ≤ 1024
few_global [] before e h = omega arith
few_global (s ∷ ss) before e h =
    let k = goes_on (is_over (tally_of before) s.token) s.at (limit_from (s.token ∷ before) ss) e in
    let m = one_more_global s.token before k.0 h in
    omega (arith, m.0, few_global ss (s.token ∷ before) k.1 m.1)

parsed_functions : (tree : List Item) → IsParsed tree → length (functions_of tree) ≤ 256
parsed_functions tree p =
    let s = p.parses.spelled in
    let k : limit_from [] (tokens_of p.text) ≡ None = none_first _ (byte_over (length p.text)) s.limits in
    omega (arith, few_fn (tokens_of p.text) [] k (omega arith), functions_weigh s.spelled.written, ap (weigh is_fn) s.spelled.spelled, ap (λ (t : List Item). length (functions_of t)) s.spelled.meaning)

parsed_globals : (tree : List Item) → IsParsed tree → length (globals_of tree) ≤ 1024
parsed_globals tree p =
    let s = p.parses.spelled in
    let k : limit_from [] (tokens_of p.text) ≡ None = none_first _ (byte_over (length p.text)) s.limits in
    omega (arith, few_global (tokens_of p.text) [] k (omega arith), globals_weigh s.spelled.written, ap (weigh is_global) s.spelled.spelled, ap (λ (t : List Item). length (globals_of t)) s.spelled.meaning)

-- a tree that some text spells has few functions and globals
pub few_functions : (tree : List Item) → ∥ IsParsed tree ∥₁ → length (functions_of tree) ≤ 256
few_functions tree p = ∥∥₁_elim p le_prop (parsed_functions tree)

pub few_globals : (tree : List Item) → ∥ IsParsed tree ∥₁ → length (globals_of tree) ≤ 1024
few_globals tree p = ∥∥₁_elim p le_prop (parsed_globals tree)

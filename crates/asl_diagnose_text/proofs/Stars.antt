-- Each access of a program's code has its `*` in the text, and so has the one at a pc.
use Rattle.std.proofs.Common.{◌≡◌, ℕ, zero, suc, ◌+◌, ◌<◌, ◌≤◌, Bool, true, false, IsTrue, if◌then◌else◌, List, [], ◌∷◌, ◌++◌, Some, length, take, cond, map, slice_get, refl, ap, ◌∙◌, arith}
use Rattle.std.proofs.lemmas.List.Sums.{sum_by-cons}
use Rattle.asl_code.specs.declared.instr.Instr.{Instr}
use Rattle.asl_code.specs.declared.instr.Instr.TheVariants as instr
use Rattle.asl_grammar.specs.declared.token.Mark.TheVariants as mark
use Rattle.asl_grammar.specs.declared.control.Operator.TheVariants.{Add, Subtract, IsLess, IsEqual}
use Rattle.asl_grammar.specs.Token.{Token, Fixed, Name, Spot}
use Rattle.asl_grammar.specs.Grammar.{bare}
use Rattle.asl_grammar.specs.Written as w
use Rattle.asl_grammar.specs.Spelling.{line_on, stmt_on, block_on, else_on, function_on, program_on}
use Rattle.asl_syntax.specs.Tree.{Item, functions_of}
use Rattle.asl_syntax.specs.Spelled.{line_meaning, stmt_meaning, block_meaning, else_meaning, function_meaning, item_meaning, Spells}
use Rattle.asl_lower.specs.Names.{Scope, register, function_number, scope_of}
use Rattle.asl_lower.specs.Lowered.{first_argument}
use Rattle.asl_lower.specs.Place.{Place, next, entered, origin, past_stmt, past_block, past_function}
use Rattle.asl_lower.specs.OpenSections.{is_access}
use Rattle.asl_lower.specs.Layout.{moves, stmt_code, block_code, else_code, function_code, functions_code}
use Rattle.asl_diagnose_text.specs.declared.word_place.Word.TheVariants as word
use Rattle.asl_diagnose_text.specs.Places.{accesses_before, words_in}
use Rattle.asl_diagnose_text.proofs.There.{count, counted, names_count}

abbrev pub weight : Bool → ℕ
weight b = if b then 1 else 0

-- how many accesses there are
abbrev pub accesses : List Instr → ℕ
accesses [] = 0
accesses (i ∷ is) = weight (is_access i) + accesses is

pub both : (xs ys : List Instr) → accesses (xs ++ ys) ≡ accesses xs + accesses ys
both [] ys = omega arith
both (x ∷ xs) ys = omega (arith, both xs ys)

pub no_moves : (sc : Scope) (args : List (List ℕ)) (to : ℕ) → accesses (moves sc args to) ≡ 0
no_moves sc [] to = refl
no_moves sc (a ∷ rest) to = omega (arith, no_moves sc rest (suc to))

line_stars : (sc : Scope) (l : w.Line) (rest : List Token) (p : Place) → accesses (stmt_code sc (line_meaning l) p) + count word.Star rest ≤ count word.Star (line_on l rest)
line_stars sc (w.Assigns x (w.Literal true n)) rest p = omega arith
line_stars sc (w.Assigns x (w.Literal false n)) rest p = omega arith
line_stars sc (w.Assigns x w.NullValue) rest p = omega arith
line_stars sc (w.Assigns x (w.Copied y)) rest p = omega arith
line_stars sc (w.Assigns x (w.Binary y Add z)) rest p = omega arith
line_stars sc (w.Assigns x (w.Binary y Subtract z)) rest p = omega arith
line_stars sc (w.Assigns x (w.Binary y IsLess z)) rest p = omega arith
line_stars sc (w.Assigns x (w.Binary y IsEqual z)) rest p = omega arith
line_stars sc (w.Assigns x (w.GlobalAddress y)) rest p = omega arith
line_stars sc (w.Assigns x (w.FieldAddress y n)) rest p = omega arith
line_stars sc (w.Assigns x (w.Loaded y)) rest p = omega arith
line_stars sc (w.Assigns x (w.Created n)) rest p = omega arith
line_stars sc (w.Calls x f args) rest p =
    let last : List Instr = instr.Call (register sc x) (first_argument sc args) (function_number sc f) ∷ [] in
    omega (arith, both (moves sc args (length sc.locals)) last, no_moves sc args (length sc.locals), names_count word.Star args (Fixed mark.CloseParen ∷ rest))
line_stars sc (w.Stores x y) rest p = omega arith
line_stars sc (w.Shows x) rest p = omega arith

mutual
  stmt_stars : (sc : Scope) (s : w.Stmt) (rest : List Token) (p : Place) → accesses (stmt_code sc (stmt_meaning s) p) + count word.Star rest ≤ count word.Star (stmt_on s rest)
  stmt_stars sc (w.Simple l) rest p = omega (arith, line_stars sc l (Fixed mark.Semicolon ∷ rest) p)
  stmt_stars sc (w.IfStmt x a e) rest p =
      let mid : Place = past_block (block_meaning a) (next p) in
      omega (arith, both (block_code sc (block_meaning a) (next p)) (else_code sc (else_meaning e) mid), block_stars sc a (Fixed mark.CloseBrace ∷ else_on e rest) (next p), else_stars sc e rest mid)
  stmt_stars sc (w.WhileStmt x a) rest p =
      omega (arith, both (block_code sc (block_meaning a) (next p)) (instr.Jump p.pc ∷ []), block_stars sc a (Fixed mark.CloseBrace ∷ rest) (next p))
  stmt_stars sc (w.AtomicStmt a) rest p =
      omega (arith, both (block_code sc (block_meaning a) (entered p)) (instr.Release ∷ []), block_stars sc a (Fixed mark.CloseBrace ∷ rest) (entered p))

  block_stars : (sc : Scope) (b : w.Block) (rest : List Token) (p : Place) → accesses (block_code sc (block_meaning b) p) + count word.Star rest ≤ count word.Star (block_on b rest)
  block_stars sc w.End rest p = omega arith
  block_stars sc (w.More s b) rest p =
      let q : Place = past_stmt (stmt_meaning s) p in
      omega (arith, both (stmt_code sc (stmt_meaning s) p) (block_code sc (block_meaning b) q), stmt_stars sc s (block_on b rest) p, block_stars sc b rest q)

  else_stars : (sc : Scope) (e : w.Else) (rest : List Token) (p : Place) → accesses (else_code sc (else_meaning e) p) + count word.Star rest ≤ count word.Star (else_on e rest)
  else_stars sc w.NoElse rest p = omega arith
  else_stars sc (w.Otherwise w.End) rest p = omega arith
  else_stars sc (w.Otherwise (w.More s b)) rest p =
      let q : Place = past_stmt (stmt_meaning s) (next p) in
      omega (arith, both (stmt_code sc (stmt_meaning s) (next p)) (block_code sc (block_meaning b) q), stmt_stars sc s (block_on b (Fixed mark.CloseBrace ∷ rest)) (next p), block_stars sc b (Fixed mark.CloseBrace ∷ rest) q)

function_stars : (tree : List Item) (number : ℕ) (f : w.Function) (rest : List Token) (p : Place) → accesses (function_code tree number (function_meaning f) p) + count word.Star rest ≤ count word.Star (function_on f rest)
function_stars tree number f rest p =
    let sc : Scope = scope_of tree number (function_meaning f) in
    let tail : List Token = Fixed mark.Return ∷ Name f.returned ∷ Fixed mark.Semicolon ∷ Fixed mark.CloseBrace ∷ rest in
    let head : List Token = Fixed mark.CloseParen ∷ Fixed mark.OpenBrace ∷ block_on f.body tail in
    omega (arith, both (block_code sc (block_meaning f.body) p) (instr.Return (register sc f.returned) ∷ []), names_count word.Star f.parameters head, block_stars sc f.body tail p)

items_stars : (tree : List Item) (number : ℕ) (is : List w.Item) (p : Place) → accesses (functions_code tree number (functions_of (map item_meaning is)) p) ≤ count word.Star (program_on is [])
items_stars tree number [] p = omega arith
items_stars tree number (w.GlobalItem x ∷ is) p = omega (arith, items_stars tree number is p)
items_stars tree number (w.FunctionItem f ∷ is) p =
    let q : Place = past_function (function_meaning f) p in
    omega (arith, both (function_code tree number (function_meaning f) p) (functions_code tree (suc number) (functions_of (map item_meaning is)) q), function_stars tree number f (program_on is []) p, items_stars tree (suc number) is q)

-- how many of the first instructions are accesses
abbrev pub counted_to : ℕ → List Instr → ℕ
counted_to zero code = 0
counted_to (suc n) [] = 0
counted_to (suc n) (i ∷ code) = weight (is_access i) + counted_to n code

pub counted_is : (n : ℕ) (code : List Instr) → accesses_before code n ≡ counted_to n code
counted_is zero code = refl
counted_is (suc n) [] = refl
counted_is (suc n) (i ∷ code) =
    sum_by-cons (λ (j : Instr). cond (is_access j) 1 0) i (take n code) ∙ ap (λ (m : ℕ). weight (is_access i) + m) (counted_is n code)

-- those before one that is an access are fewer than all
fewer : (code : List Instr) (pc : ℕ) (i : Instr) → slice_get code pc ≡ Some i → IsTrue (is_access i) → counted_to pc code < accesses code
fewer [] pc i e a = absurd cc
fewer (x ∷ code) zero i e a =
    let same : x ≡ i = cc in
    let here : is_access x ≡ true = ap is_access same ∙ a in
    omega (arith, ap weight here)
fewer (x ∷ code) (suc pc) i e a = omega (arith, fewer code pc i e a)

-- a text has more `*` than its code has accesses before one
pub star_there : (tree : List Item) (ss : List Spot) (code : List Instr) (pc : ℕ) (i : Instr) → Spells tree (bare ss) → code ≡ functions_code tree 0 (functions_of tree) origin → slice_get code pc ≡ Some i → IsTrue (is_access i)
    → accesses_before code pc < words_in word.Star ss
star_there tree ss code pc i h same e a =
    omega (arith, counted_is pc code, fewer code pc i e a, ap accesses same, items_stars tree 0 h.written origin, ap (count word.Star) h.spelled, ap (λ (t : List Item). accesses (functions_code tree 0 (functions_of t) origin)) h.meaning, counted word.Star ss)

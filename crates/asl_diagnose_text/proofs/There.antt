-- What a refusal names is in the text: its `fn`, its `atomic`, a `*`.
use Rattle.std.proofs.Common.{◌≡◌, inl, inr, ℕ, suc, ◌+◌, ◌<◌, ◌≤◌, Bool, true, false, if◌then◌else◌, List, [], ◌∷◌, Some, length, map, nat_lt, refl, sym, ap, ◌∙◌, arith}
use Rattle.std.proofs.lemmas.Bool.{cases_Bool}
use Rattle.asl_grammar.specs.declared.token.Mark.TheVariants as mark
use Rattle.asl_grammar.specs.Token.{Token, Fixed, Name, Spot}
use Rattle.asl_grammar.specs.Grammar.{bare}
use Rattle.asl_grammar.specs.Written as w
use Rattle.asl_grammar.specs.Spelling.{later_names_on, names_on, right_on, line_on, stmt_on, block_on, else_on, function_on, program_on}
use Rattle.asl_syntax.specs.Tree.{Function, Item, functions_of}
use Rattle.asl_syntax.specs.Spelled.{right_meaning, line_meaning, stmt_meaning, block_meaning, else_meaning, function_meaning, item_meaning, Spells}
use Rattle.asl_lower.specs.Place.{Place, next, entered, origin, past_moves, past_value, past_stmt, past_block, past_else, past_function, past_functions}
use Rattle.asl_lower.specs.Names.{registers_of}
use Rattle.asl_lower.specs.Refused.{first_crowded}
use Rattle.asl_diagnose_text.specs.declared.word_place.Word.{Word}
use Rattle.asl_diagnose_text.specs.declared.word_place.Word.TheVariants as word
use Rattle.asl_diagnose_text.specs.Places.{is_word, words_in}

-- one for a token that is the word
abbrev pub one : Word → Token → ℕ
one v t = if is_word v t then 1 else 0

-- how many of the word there are among tokens
abbrev pub count : Word → List Token → ℕ
count v [] = 0
count v (t ∷ ts) = one v t + count v ts

counted_if : (b : Bool) (m n : ℕ) → m ≡ n → (if b then suc m else m) ≡ (if b then 1 else 0) + n
counted_if true m n e = omega arith
counted_if false m n e = omega arith

pub counted : (v : Word) (ss : List Spot) → words_in v ss ≡ count v (bare ss)
counted v [] = refl
counted v (s ∷ ss) = counted_if (is_word v s.token) (words_in v ss) (count v (bare ss)) (counted v ss)

-- ---- none is lost

later_names_count : (v : Word) (xs : List (List ℕ)) (rest : List Token) → count v rest ≤ count v (later_names_on xs rest)
later_names_count v [] rest = omega arith
later_names_count v (x ∷ xs) rest = omega (arith, later_names_count v xs rest)

pub names_count : (v : Word) (xs : List (List ℕ)) (rest : List Token) → count v rest ≤ count v (names_on xs rest)
names_count v [] rest = omega arith
names_count v (x ∷ xs) rest = omega (arith, later_names_count v xs rest)

right_count : (v : Word) (r : w.Right) (rest : List Token) → count v rest ≤ count v (right_on r rest)
right_count v (w.Literal true n) rest = omega arith
right_count v (w.Literal false n) rest = omega arith
right_count v w.NullValue rest = omega arith
right_count v (w.Copied y) rest = omega arith
right_count v (w.Binary y o z) rest = omega arith
right_count v (w.GlobalAddress y) rest = omega arith
right_count v (w.FieldAddress y n) rest = omega arith
right_count v (w.Loaded y) rest = omega arith
right_count v (w.Created n) rest = omega arith

line_count : (v : Word) (l : w.Line) (rest : List Token) → count v rest ≤ count v (line_on l rest)
line_count v (w.Assigns x r) rest = omega (arith, right_count v r rest)
line_count v (w.Calls x f args) rest = omega (arith, names_count v args (Fixed mark.CloseParen ∷ rest))
line_count v (w.Stores x y) rest = omega arith
line_count v (w.Shows x) rest = omega arith

mutual
  stmt_count : (v : Word) (s : w.Stmt) (rest : List Token) → count v rest ≤ count v (stmt_on s rest)
  stmt_count v (w.Simple l) rest = omega (arith, line_count v l (Fixed mark.Semicolon ∷ rest))
  stmt_count v (w.IfStmt x a e) rest =
      omega (arith, block_count v a (Fixed mark.CloseBrace ∷ else_on e rest), else_count v e rest)
  stmt_count v (w.WhileStmt x a) rest = omega (arith, block_count v a (Fixed mark.CloseBrace ∷ rest))
  stmt_count v (w.AtomicStmt a) rest = omega (arith, block_count v a (Fixed mark.CloseBrace ∷ rest))

  block_count : (v : Word) (b : w.Block) (rest : List Token) → count v rest ≤ count v (block_on b rest)
  block_count v w.End rest = omega arith
  block_count v (w.More s b) rest = omega (arith, stmt_count v s (block_on b rest), block_count v b rest)

  else_count : (v : Word) (e : w.Else) (rest : List Token) → count v rest ≤ count v (else_on e rest)
  else_count v w.NoElse rest = omega arith
  else_count v (w.Otherwise b) rest = omega (arith, block_count v b (Fixed mark.CloseBrace ∷ rest))

-- ---- functions

function_count : (v : Word) (f : w.Function) (rest : List Token) → one v (Fixed mark.Fn) + count v rest ≤ count v (function_on f rest)
function_count v f rest =
    let tail : List Token = Fixed mark.Return ∷ Name f.returned ∷ Fixed mark.Semicolon ∷ Fixed mark.CloseBrace ∷ rest in
    let head : List Token = Fixed mark.CloseParen ∷ Fixed mark.OpenBrace ∷ block_on f.body tail in
    omega (arith, names_count v f.parameters head, block_count v f.body tail)

functions_count : (is : List w.Item) → length (functions_of (map item_meaning is)) ≤ count word.Fn (program_on is [])
functions_count [] = omega arith
functions_count (w.GlobalItem x ∷ is) = omega (arith, functions_count is)
functions_count (w.FunctionItem f ∷ is) =
    omega (arith, functions_count is, function_count word.Fn f (program_on is []))

-- each function of a text has its `fn`
pub functions_there : (tree : List Item) (ss : List Spot) → Spells tree (bare ss) → length (functions_of tree) ≤ words_in word.Fn ss
functions_there tree ss h =
    omega (arith, functions_count h.written, ap (count word.Fn) h.spelled, ap (λ (t : List Item). length (functions_of t)) h.meaning, counted word.Fn ss)

-- a crowded function is there
pub crowded_there : (number n : ℕ) (fs : List Function) → first_crowded number fs ≡ Some n → n < number + length fs
crowded_there number n [] e = absurd cc
crowded_there number n (f ∷ fs) e =
    elim (cases_Bool (nat_lt 64 (registers_of f))) [
      | inl h ↦
          let same : Some number ≡ Some n =
          sym (ap (λ (b : Bool). if b then Some number else first_crowded (suc number) fs) h) ∙ e in
          let is : number ≡ n = cc in
          omega arith
      | inr h ↦
          let rest : first_crowded (suc number) fs ≡ Some n =
          sym (ap (λ (b : Bool). if b then Some number else first_crowded (suc number) fs) h) ∙ e in
          omega (arith, crowded_there (suc number) n fs rest)
    ]

-- ---- sections

moves_section : (args : List (List ℕ)) (p : Place) → (past_moves args p).section ≡ p.section
moves_section [] p = refl
moves_section (x ∷ rest) p = moves_section rest (next p)

right_section : (r : w.Right) (rest : List Token) (p : Place) → (past_value (right_meaning r) p).section + count word.Atomic rest ≤ p.section + count word.Atomic (right_on r rest)
right_section (w.Literal true n) rest p = omega arith
right_section (w.Literal false n) rest p = omega arith
right_section w.NullValue rest p = omega arith
right_section (w.Copied y) rest p = omega arith
right_section (w.Binary y o z) rest p = omega arith
right_section (w.GlobalAddress y) rest p = omega arith
right_section (w.FieldAddress y n) rest p = omega arith
right_section (w.Loaded y) rest p = omega arith
right_section (w.Created n) rest p = omega arith

line_section : (l : w.Line) (rest : List Token) (p : Place) → (past_stmt (line_meaning l) p).section + count word.Atomic rest ≤ p.section + count word.Atomic (line_on l rest)
line_section (w.Assigns x r) rest p = omega (arith, right_section r rest p)
line_section (w.Calls x f args) rest p =
    omega (arith, moves_section args p, names_count word.Atomic args (Fixed mark.CloseParen ∷ rest))
line_section (w.Stores x y) rest p = omega arith
line_section (w.Shows x) rest p = omega arith

-- what follows the block of an `if` has the sections of the other block
else_same : (e : w.Else) (p : Place) → (past_else (else_meaning e) p).section ≡ (past_block (else_meaning e) (next p)).section
else_same w.NoElse p = refl
else_same (w.Otherwise w.End) p = refl
else_same (w.Otherwise (w.More s b)) p = refl

mutual
  stmt_section : (s : w.Stmt) (rest : List Token) (p : Place) → (past_stmt (stmt_meaning s) p).section + count word.Atomic rest ≤ p.section + count word.Atomic (stmt_on s rest)
  stmt_section (w.Simple l) rest p = omega (arith, line_section l (Fixed mark.Semicolon ∷ rest) p)
  stmt_section (w.IfStmt x a e) rest p =
      let mid : Place = past_block (block_meaning a) (next p) in
      omega (arith, block_section a (Fixed mark.CloseBrace ∷ else_on e rest) (next p), else_same e mid, else_section e rest (next mid))
  stmt_section (w.WhileStmt x a) rest p = omega (arith, block_section a (Fixed mark.CloseBrace ∷ rest) (next p))
  stmt_section (w.AtomicStmt a) rest p = omega (arith, block_section a (Fixed mark.CloseBrace ∷ rest) (entered p))

  block_section : (b : w.Block) (rest : List Token) (p : Place) → (past_block (block_meaning b) p).section + count word.Atomic rest ≤ p.section + count word.Atomic (block_on b rest)
  block_section w.End rest p = omega arith
  block_section (w.More s b) rest p =
      omega (arith, stmt_section s (block_on b rest) p, block_section b rest (past_stmt (stmt_meaning s) p))

  else_section : (e : w.Else) (rest : List Token) (p : Place) → (past_block (else_meaning e) p).section + count word.Atomic rest ≤ p.section + count word.Atomic (else_on e rest)
  else_section w.NoElse rest p = omega arith
  else_section (w.Otherwise b) rest p = omega (arith, block_section b (Fixed mark.CloseBrace ∷ rest) p)

function_section : (f : w.Function) (rest : List Token) (p : Place) → (past_function (function_meaning f) p).section + count word.Atomic rest ≤ p.section + count word.Atomic (function_on f rest)
function_section f rest p =
    let tail : List Token = Fixed mark.Return ∷ Name f.returned ∷ Fixed mark.Semicolon ∷ Fixed mark.CloseBrace ∷ rest in
    let head : List Token = Fixed mark.CloseParen ∷ Fixed mark.OpenBrace ∷ block_on f.body tail in
    omega (arith, names_count word.Atomic f.parameters head, block_section f.body tail p)

items_section : (is : List w.Item) (p : Place) → (past_functions (functions_of (map item_meaning is)) p).section ≤ p.section + count word.Atomic (program_on is [])
items_section [] p = omega arith
items_section (w.GlobalItem x ∷ is) p = omega (arith, items_section is p)
items_section (w.FunctionItem f ∷ is) p =
    omega (arith, function_section f (program_on is []) p, items_section is (past_function (function_meaning f) p))

-- each section of a text has its `atomic`
pub sections_there : (tree : List Item) (ss : List Spot) → Spells tree (bare ss) → (past_functions (functions_of tree) origin).section ≤ words_in word.Atomic ss
sections_there tree ss h =
    omega (arith, items_section h.written origin, ap (count word.Atomic) h.spelled, ap (λ (t : List Item). (past_functions (functions_of t) origin).section) h.meaning, counted word.Atomic ss)

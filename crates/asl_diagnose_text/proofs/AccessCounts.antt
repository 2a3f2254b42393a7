-- What src/code_walk.rt has passed is what the code of a program has.
use Rattle.std.proofs.Common.{◌≡◌, ℕ, zero, suc, ◌+◌, ◌-◌, ◌≤◌, ◌<◌, min, true, List, [], ◌∷◌, ◌++◌, length, refl, ap, arith, length-append}
use Rattle.asl_code.specs.declared.instr.Instr.{Instr}
use Rattle.asl_code.specs.declared.instr.Instr.TheVariants as instr
use Rattle.asl_grammar.specs.declared.control.Operator.TheVariants.{Add, Subtract, IsLess, IsEqual}
use Rattle.asl_syntax.specs.declared.tree.Statement as code
use Rattle.asl_syntax.specs.View.{block_of}
use Rattle.asl_syntax.specs.Tree.{Value, IntegerValue, NullValue, LocalValue, BinaryValue, GlobalValue, FieldValue, LoadValue, NewValue, CallValue, Statement, AssignStatement, StoreStatement, OutStatement, IfStatement, WhileStatement, AtomicStatement, Block, NoMore, Then, Function, Item, functions_of}
use Rattle.asl_lower.specs.Names.{Scope, register, function_number, scope_of}
use Rattle.asl_lower.specs.Lowered.{Lowered, IsLowering, first_argument, else_target}
use Rattle.asl_lower.specs.Place.{Place, next, entered, origin, past_stmt, past_block, past_else, past_function}
use Rattle.asl_lower.specs.OpenSections.{is_access}
use Rattle.asl_lower.specs.Layout.{moves, value_code, stmt_code, block_code, else_code, function_code, functions_code}
use Rattle.asl_lower.proofs.Laid.{code_is}
use Rattle.asl_diagnose_text.specs.declared.code_walk.Passed.{Passed}
use Rattle.asl_diagnose_text.specs.Places.{accesses_before}
use Rattle.asl_diagnose_text.specs.AccessView.{after, after_access, after_value, after_stmt, after_block, after_else, after_function, after_functions}
use Rattle.asl_diagnose_text.proofs.Stars.{weight, accesses, both, no_moves, counted_to, counted_is}

-- the instructions lie between the two
record Between (a b : Passed) (code : List Instr) : Type 0 where
  left : b.left ≡ a.left - length code
  accesses : b.accesses ≡ a.accesses + counted_to a.left code

counted_none : (n : ℕ) → counted_to n [] ≡ 0
counted_none zero = refl
counted_none (suc n) = refl

counted_few : (n : ℕ) (code : List Instr) → counted_to n code ≤ accesses code
counted_few zero code = omega arith
counted_few (suc n) [] = omega arith
counted_few (suc n) (i ∷ code) = omega (arith, counted_few n code)

-- those of two parts
counted_both : (n : ℕ) (xs ys : List Instr) → counted_to n (xs ++ ys) ≡ counted_to n xs + counted_to (n - length xs) ys
counted_both zero xs ys =
    let e : 0 - length xs ≡ 0 = omega arith in
    omega (arith, ap (λ (m : ℕ). counted_to m ys) e)
counted_both (suc n) [] ys =
    let e : suc n - 0 ≡ suc n = omega arith in
    omega (arith, ap (λ (m : ℕ). counted_to m ys) e)
counted_both (suc n) (x ∷ xs) ys =
    let e : suc n - suc (length xs) ≡ n - length xs = omega arith in
    omega (arith, counted_both n xs ys, ap (λ (m : ℕ). counted_to m ys) e)

counted_one : (n : ℕ) (i : Instr) → is_access i ≡ true → counted_to n (i ∷ []) ≡ min n 1
counted_one zero i e = omega arith
counted_one (suc n) i e = omega (arith, ap weight e, counted_none n)

none : (a : Passed) → Between a a []
none a = record { left = omega arith; accesses = omega (arith, counted_none a.left) }

then : (a b c : Passed) (xs ys : List Instr) → Between a b xs → Between b c ys → Between a c (xs ++ ys)
then a b c xs ys h g = record {
  left = omega (arith, h.left, g.left, length-append xs ys);
  accesses = omega (arith, h.accesses, g.accesses, counted_both a.left xs ys, ap (λ (m : ℕ). counted_to m ys) h.left);
}

plain : (a : Passed) (n : ℕ) (code : List Instr) → length code ≡ n → accesses code ≡ 0 → Between a (after a n) code
plain a n code e f =
    record { left = omega (arith, e); accesses = omega (arith, f, counted_few a.left code) }

access : (a : Passed) (i : Instr) → is_access i ≡ true → Between a (after_access a) (i ∷ [])
access a i e = record { left = omega arith; accesses = omega (arith, counted_one a.left i e) }

moves_length : (sc : Scope) (args : List (List ℕ)) (to : ℕ) → length (moves sc args to) ≡ length args
moves_length sc [] to = refl
moves_length sc (x ∷ rest) to = omega (arith, moves_length sc rest (suc to))

value_between : (sc : Scope) (to site : ℕ) (v : Value) (a : Passed) → Between a (after_value a v) (value_code sc to site v)
value_between sc to site (IntegerValue z) a = plain a 1 _ refl refl
value_between sc to site NullValue a = plain a 1 _ refl refl
value_between sc to site (LocalValue y) a = plain a 1 _ refl refl
value_between sc to site (BinaryValue y Add z) a = plain a 1 _ refl refl
value_between sc to site (BinaryValue y Subtract z) a = plain a 1 _ refl refl
value_between sc to site (BinaryValue y IsLess z) a = plain a 1 _ refl refl
value_between sc to site (BinaryValue y IsEqual z) a = plain a 1 _ refl refl
value_between sc to site (GlobalValue g) a = plain a 1 _ refl refl
value_between sc to site (FieldValue y n) a = plain a 1 _ refl refl
value_between sc to site (LoadValue y) a = access a _ refl
value_between sc to site (NewValue n) a = plain a 1 _ refl refl
value_between sc to site (CallValue f args) a =
    let last : List Instr = instr.Call to (first_argument sc args) (function_number sc f) ∷ [] in
    let front : List Instr = moves sc args (length sc.locals) in
    plain a (suc (length args)) (front ++ last) (omega (arith, length-append front last, moves_length sc args (length sc.locals))) (omega (arith, both front last, no_moves sc args (length sc.locals)))

mutual
  stmt_between : (sc : Scope) (s : Statement) (p : Place) (a : Passed) → Between a (after_stmt a s) (stmt_code sc s p)
  stmt_between sc (AssignStatement x v) p a = value_between sc (register sc x) p.site v a
  stmt_between sc (StoreStatement x y) p a = access a _ refl
  stmt_between sc (OutStatement x) p a = plain a 1 _ refl refl
  stmt_between sc (IfStatement x b e) p a =
      let mid : Place = past_block b (next p) in
      let first : Passed = after_block (after a 1) b in
      let test : List Instr = instr.JumpIfZero (register sc x) (else_target e mid) ∷ [] in
      then a (after a 1) (after_else first e) test (block_code sc b (next p) ++ else_code sc e mid) (plain a 1 test refl refl)
      (then (after a 1) first (after_else first e) (block_code sc b (next p)) (else_code sc e mid) (block_between sc b (next p) (after a 1)) (else_between sc e mid first))
  stmt_between sc (WhileStatement x b) p a =
      let inner : Passed = after_block (after a 1) b in
      let test : List Instr = instr.JumpIfZero (register sc x) (past_stmt (WhileStatement x b) p).pc ∷ [] in
      let back : List Instr = instr.Jump p.pc ∷ [] in
      then a (after a 1) (after inner 1) test (block_code sc b (next p) ++ back) (plain a 1 test refl refl)
      (then (after a 1) inner (after inner 1) (block_code sc b (next p)) back (block_between sc b (next p) (after a 1)) (plain inner 1 back refl refl))
  stmt_between sc (AtomicStatement b) p a =
      let inner : Passed = after_block (after a 1) b in
      let enter : List Instr = instr.Acquire p.section ∷ [] in
      let leave : List Instr = instr.Release ∷ [] in
      then a (after a 1) (after inner 1) enter (block_code sc b (entered p) ++ leave) (plain a 1 enter refl refl)
      (then (after a 1) inner (after inner 1) (block_code sc b (entered p)) leave (block_between sc b (entered p) (after a 1)) (plain inner 1 leave refl refl))

  block_between : (sc : Scope) (b : Block) (p : Place) (a : Passed) → Between a (after_block a b) (block_code sc b p)
  block_between sc NoMore p a = none a
  block_between sc (Then s b) p a =
      let q : Place = past_stmt s p in
      then a (after_stmt a s) (after_block (after_stmt a s) b) (stmt_code sc s p) (block_code sc b q) (stmt_between sc s p a) (block_between sc b q (after_stmt a s))

  else_between : (sc : Scope) (e : Block) (p : Place) (a : Passed) → Between a (after_else a e) (else_code sc e p)
  else_between sc NoMore p a = none a
  else_between sc (Then s b) p a =
      let q : Place = past_stmt s (next p) in
      let c : Passed = after_stmt (after a 1) s in
      let over : List Instr = instr.Jump (past_else (Then s b) p).pc ∷ [] in
      then a (after a 1) (after_block c b) over (stmt_code sc s (next p) ++ block_code sc b q) (plain a 1 over refl refl)
      (then (after a 1) c (after_block c b) (stmt_code sc s (next p)) (block_code sc b q) (stmt_between sc s (next p) (after a 1)) (block_between sc b q c))

function_between : (tree : List Item) (number : ℕ) (f : Function) (p : Place) (a : Passed) → Between a (after_function a f) (function_code tree number f p)
function_between tree number f p a =
    let sc : Scope = scope_of tree number f in
    let inner : Passed = after_block a f.body in
    let last : List Instr = instr.Return (register sc f.returned) ∷ [] in
    then a inner (after inner 1) (block_code sc f.body p) last (block_between sc f.body p a) (plain inner 1 last refl refl)

functions_between : (tree : List Item) (number : ℕ) (fs : List Function) (p : Place) (a : Passed) → Between a (after_functions a fs) (functions_code tree number fs p)
functions_between tree number [] p a = none a
functions_between tree number (f ∷ fs) p a =
    let q : Place = past_function f p in
    let b : Passed = after_function a f in
    then a b (after_functions b fs) (function_code tree number f p) (functions_code tree (suc number) fs q) (function_between tree number f p a) (functions_between tree (suc number) fs q b)

-- before any instruction
abbrev pub start : ℕ → Passed
start pc = record { left = pc; accesses = 0 }

pub accesses_are : (tree : List Item) (l : Lowered) (pc : ℕ) → IsLowering tree l → (after_functions (start pc) (functions_of tree)).accesses ≡ accesses_before l.code pc
accesses_are tree l pc h =
    let k = functions_between tree 0 (functions_of tree) origin (start pc) in
    omega (arith, k.accesses, counted_is pc (functions_code tree 0 (functions_of tree) origin), ap (λ (code : List Instr). accesses_before code pc) (code_is tree l h))

-- a block that is not empty has a jump over it
pub jumped : (a : Passed) (ss : List code.Statement) → 0 < length ss → after_block (after a 1) (block_of ss) ≡ after_else a (block_of ss)
jumped a [] l = absurd (omega arith)
jumped a (s ∷ ss) l = refl

pub not_jumped : (a : Passed) (ss : List code.Statement) → length ss ≡ 0 → after_block a (block_of ss) ≡ after_else a (block_of ss)
not_jumped a [] e = refl
not_jumped a (s ∷ ss) e = absurd (omega (arith, e))

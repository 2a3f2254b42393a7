-- What the tests of a verified image tell, one by one: of lists and options, of locks, and of the operands of an instruction. Together
-- they tell that the instruction fits its function.
use Rattle.std.proofs.Common.{◌≡◌, ℕ, ◌+◌, ◌<◌, ◌≤◌, Bool, true, false, List, [], ◌∷◌, Option, Some, None, length, ltb, leb, zero, suc, All, slice_get, refl, ap, sym, ◌∙◌, arith}
use Rattle.std.specs.List.{list_all, AllByRecursion}
use Rattle.std.specs.Option.{option_map_or}
use Rattle.std.proofs.lemmas.Bool.{and_parts, ltb-true, leb-true, not-false}
use Rattle.asl_code.specs.Bodies.{Body, first_of, is_inside}
use Rattle.asl_code.specs.Fits.{LiesIn, FitsOperand, FitsInstr, FitsBase, FitsLock, HasBase, HasLock}
use Rattle.asl_code.specs.Operands.{Operand, operands}
use Rattle.asl_code.specs.Operands as operand
use Rattle.asl_code.specs.Rules.{body_at}
use Rattle.asl_code.specs.Verified.{keeps_limits, has_base, has_lock, has_tables, has_ranges, target_there, has_target, register_there, has_registers, has_arguments, entry_there, has_operands, has_base_register, has_lock_base, bases_there, has_list_bases, is_failure, fails_at, IsVerified}
use Rattle.asl_code.specs.declared.image.Function.{Function}
use Rattle.asl_code.specs.declared.image.Image.{Image}
use Rattle.asl_code.specs.declared.fault.VerifyFault.TheVariants as fault
use Rattle.asl_code.specs.declared.instr.Instr.{Instr}
use Rattle.asl_code.specs.declared.lock.Base.{Base}
use Rattle.asl_code.specs.declared.lock.Base.TheVariants.{Reg, Global}
use Rattle.asl_code.specs.declared.lock.Lock.{Lock}
use Rattle.asl_code.specs.declared.lock.Lock.TheVariants as lock
use Rattle.std.proofs.lemmas.List.Elements.{All-nil, All-cons}
use Rattle.asl_code.proofs.BodyPlaces.{body_of_place}

-- an element of a list that passes a test throughout
pub passes_at : {X : Type 0} (test : X → Bool) (xs : List X) (n : ℕ) (x : X) → list_all test xs ≡ true → slice_get xs n ≡ Some x → test x ≡ true
passes_at test [] n x all is = cc
passes_at test (y ∷ ys) zero x all is =
    let same : y ≡ x = cc in
    ap test (sym same) ∙ (and_parts _ _ all).0
passes_at test (y ∷ ys) (suc n) x all is = passes_at test ys n x (and_parts _ _ all).1 is

-- what each element's test tells holds of each element
pub all_told : {X : Type 0} (test : X → Bool) (P : X → Type 0) → ((x : X) → test x ≡ true → P x) → (xs : List X) → list_all test xs ≡ true → All P xs
all_told test P tells [] all = All-nil P
all_told test P tells (x ∷ xs) all =
    All-cons P x xs (tells x (and_parts _ _ all).0) (all_told test P tells xs (and_parts _ _ all).1)

-- the same of two tests
pub all_told_by_both : {X : Type 0} (test other : X → Bool) (P : X → Type 0) → ((x : X) → test x ≡ true → other x ≡ true → P x) → (xs : List X) → list_all test xs ≡ true → list_all other xs ≡ true → All P xs
all_told_by_both test other P tells [] all alls = All-nil P
all_told_by_both test other P tells (x ∷ xs) all alls =
    All-cons P x xs (tells x (and_parts _ _ all).0 (and_parts _ _ alls).0) (all_told_by_both test other P tells xs (and_parts _ _ all).1 (and_parts _ _ alls).1)

-- what a test that did not fail tells of an option's value
pub told_some : {X : Type 0} (test : X → Bool) (o : Option X) → option_map_or test o false ≡ true → (x : X) × (o ≡ Some x) × (test x ≡ true)
told_some test None h = cc
told_some test (Some x) h = (x, refl, h)

-- a place within a list has an element
pub element_at : {X : Type 0} (xs : List X) (n : ℕ) → n < length xs → (x : X) × (slice_get xs n ≡ Some x)
element_at [] n lt = absurd (omega arith)
element_at (x ∷ xs) zero lt = (x, refl)
element_at (x ∷ xs) (suc n) lt = element_at xs n (omega arith)

-- the facts of a verified image's lines
pub limits_kept : (i : Image) → IsVerified i → keeps_limits i ≡ true
limits_kept i v = not-false _ (v fault.Limit)

-- its tables have what it names
pub tables_there : (i : Image) → IsVerified i → has_tables i ≡ true
tables_there i v = not-false _ (v fault.Table)

-- its functions have bodies
pub ranges_there : (i : Image) → IsVerified i → has_ranges i ≡ true
ranges_there i v = not-false _ (v fault.FunctionRange)

-- the instruction at a place of a body passes each test that does not fail there
pub passed_at : (passes : Body → Instr → Bool) (i : Image) (n pc : ℕ) (f : Function) (instr : Instr) → LiesIn i n pc f → slice_get i.code pc ≡ Some instr → fails_at passes i pc ≡ false → passes (body_at (first_of i.functions n) f) instr ≡ true
passed_at passes i n pc f instr at is ok =
    not-false _ (
    sym (ap (λ b. is_failure passes b (slice_get i.code pc)) (body_of_place i n pc f at) ∙ ap (is_failure passes (Some (body_at (first_of i.functions n) f))) is)
    ∙ ok
    )

-- what the tests of locks tell
pub told_base : (i : Image) (f : Function) (b : Base) → has_base i b ≡ true → has_base_register f b ≡ true → FitsBase i f b
told_base i f (Reg r) there fits = ltb-true _ _ fits
told_base i f (Global g) there fits = ltb-true _ _ there

-- the same of a lock, by its base
pub told_lock : (i : Image) (f : Function) (l : Lock) → has_lock i l ≡ true → has_lock_base f l ≡ true → FitsLock i f l
told_lock i f (lock.Root effect) there fits = tt
told_lock i f (lock.Class class effect) there fits = ltb-true _ _ there
told_lock i f (lock.Expr expr effect) there fits = told_base i f expr.base there fits

-- and what the tables tell
pub told_table : (i : Image) (l : Lock) → has_lock i l ≡ true → HasLock i l
told_table i (lock.Root effect) there = tt
told_table i (lock.Class class effect) there = ltb-true _ _ there
told_table i (lock.Expr expr effect) there = told_has_base i expr.base there
  where
    told_has_base : (i : Image) (b : Base) → has_base i b ≡ true → HasBase i b
    told_has_base i (Reg r) there = tt
    told_has_base i (Global g) there = ltb-true _ _ there

-- a jump's target that is in the body lies in it
told_target : (i : Image) (n target : ℕ) (f : Function) → slice_get i.functions n ≡ Some f → is_inside target (body_at (first_of i.functions n) f) ≡ true → LiesIn i n target f
told_target i n target f is inside =
    record { function = is; low = leb-true _ _ (and_parts _ _ inside).0; high = ltb-true _ _ (and_parts _ _ inside).1 }

-- the called function is there, and its arguments are registers
told_callee : (i : Image) (f : Function) (first function : ℕ) → ltb function (length i.functions) ≡ true → has_arguments i f first function ≡ true → (callee : Function) × (slice_get i.functions function ≡ Some callee) × (first + callee.params ≤ f.regs)
told_callee i f first function there fits =
    let callee = element_at i.functions function (ltb-true _ _ there) in
    (callee.0, callee.1, leb-true _ _ (sym (ap (λ o. option_map_or (λ (g : Function). leb (first + g.params) f.regs) o true) callee.1) ∙ fits))

-- the list is there, and all its locks fit
told_list : (i : Image) (f : Function) (list : ℕ) → list_all (list_all (has_lock i)) i.lists ≡ true → ltb list (length i.lists) ≡ true → option_map_or (list_all (has_lock_base f)) (slice_get i.lists list) true ≡ true → (locks : List Lock) × (slice_get i.lists list ≡ Some locks) × All (FitsLock i f) locks
told_list i f list tables there bases =
    let locks = element_at i.lists list (ltb-true _ _ there) in (
      locks.0,
      locks.1,
      all_told_by_both (has_lock i) (has_lock_base f) (FitsLock i f) (told_lock i f) locks.0
          (passes_at (list_all (has_lock i)) i.lists list locks.0 tables locks.1)
          (sym (ap (λ o. option_map_or (list_all (has_lock_base f)) o true) locks.1) ∙ bases),
    )

-- the tests of an operand together tell that it fits
told_operand : (i : Image) (n : ℕ) (f : Function) (o : Operand) → slice_get i.functions n ≡ Some f → list_all (list_all (has_lock i)) i.lists ≡ true → target_there i (body_at (first_of i.functions n) f) o ≡ true → register_there i f o ≡ true → entry_there i o ≡ true → bases_there i f o ≡ true → FitsOperand i n f o
told_operand i n f (operand.Register register) is tables target registers entry bases = ltb-true _ _ registers
told_operand i n f (operand.Integer value) is tables target registers entry bases = tt
told_operand i n f (operand.Global global) is tables target registers entry bases = ltb-true _ _ entry
told_operand i n f (operand.Offset offset) is tables target registers entry bases = tt
told_operand i n f (operand.Cells cells) is tables target registers entry bases = ltb-true _ _ entry
told_operand i n f (operand.Class class) is tables target registers entry bases = ltb-true _ _ entry
told_operand i n f (operand.Target place) is tables inside registers entry bases = told_target i n place f is inside
told_operand i n f (operand.Callee first function) is tables there registers entry bases = told_callee i f first function there registers
told_operand i n f (operand.Locks list) is tables target registers entry bases = told_list i f list tables entry bases

-- a test of a list is one of its first element, and of the others
all_parts : {X : Type 0} (test : X → Bool) (x : X) (xs : List X) → list_all test (x ∷ xs) ≡ true → (test x ≡ true) × (list_all test xs ≡ true)
all_parts test x xs all = and_parts _ _ all

-- all operands, one by one
told_each : (i : Image) (n : ℕ) (f : Function) (os : List Operand) → slice_get i.functions n ≡ Some f → list_all (list_all (has_lock i)) i.lists ≡ true → list_all (target_there i (body_at (first_of i.functions n) f)) os ≡ true → list_all (register_there i f) os ≡ true → list_all (entry_there i) os ≡ true → list_all (bases_there i f) os ≡ true → AllByRecursion (FitsOperand i n f) os
told_each i n f [] is tables target registers entry bases = tt
told_each i n f (o ∷ os) is tables target registers entry bases =
    let t = all_parts (target_there i (body_at (first_of i.functions n) f)) o os target in
    let r = all_parts (register_there i f) o os registers in
    let e = all_parts (entry_there i) o os entry in
    let b = all_parts (bases_there i f) o os bases in
    (told_operand i n f o is tables t.0 r.0 e.0 b.0, told_each i n f os is tables t.1 r.1 e.1 b.1)

-- the tests of an instruction together tell that it fits
pub told_instr : (i : Image) (n : ℕ) (f : Function) (instr : Instr) → slice_get i.functions n ≡ Some f → list_all (list_all (has_lock i)) i.lists ≡ true → has_target i (body_at (first_of i.functions n) f) instr ≡ true → has_registers i f instr ≡ true → has_operands i instr ≡ true → has_list_bases i f instr ≡ true → FitsInstr i n f instr
told_instr i n f instr is tables target registers entry bases = told_each i n f (operands instr) is tables target registers entry bases

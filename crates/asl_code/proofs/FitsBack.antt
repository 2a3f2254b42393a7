-- The way back: an image of which all facts hold is verified.
use Rattle.std.proofs.Common.{◌≡◌, ℕ, ◌+◌, ◌-◌, ◌<◌, ◌≤◌, Bool, true, false, not, ◌==◌, List, [], ◌∷◌, Option, Some, None, length, zero, suc, ltb, leb, All, find, slice_get, subst, refl, ap, sym, ◌∙◌, inl, inr, arith}
use Rattle.std.specs.List.{list_all, AllByRecursion}
use Rattle.std.specs.Option.{option_map_or}
use Rattle.std.proofs.lemmas.List.Elements.{All-head, All-tail}
use Rattle.std.proofs.lemmas.Option.{slice_get_within}
use Rattle.std.proofs.lemmas.Bool.{cases_Bool, and_parts, and_from, leb-true, ltb-true, le-leb, lt-ltb, eq-eqb, cond-true, cond-false}
use Rattle.asl_code.specs.Bodies.{Body, bodies_from, first_of, is_inside, body_of}
use Rattle.asl_code.specs.Fits.{LiesIn, FitsFunction, FitsOperand, FitsInstr, FitsImage, FitsBase, FitsLock, HasBase, HasLock}
use Rattle.asl_code.specs.Operands.{Operand, operands}
use Rattle.asl_code.specs.Operands as operand
use Rattle.asl_code.specs.Rules.{body_at}
use Rattle.asl_code.specs.Verified.{keeps_limits, keeps_counts, keeps_function_limits, keeps_list_limit, has_base, has_lock, has_tables, has_entry, has_range, has_ranges, has_end, has_ends, is_end, target_there, has_target, register_there, has_registers, entry_there, has_operands, has_base_register, has_lock_base, bases_there, has_list_bases, is_failure, fails_at, IsVerified}
use Rattle.asl_code.specs.Versions.{most_locks}
use Rattle.asl_code.specs.declared.image.Function.{Function}
use Rattle.asl_code.specs.declared.image.Image.{Image}
use Rattle.asl_code.specs.declared.fault.VerifyFault.TheVariants as fault
use Rattle.asl_code.specs.declared.instr.Instr.{Instr}
use Rattle.asl_code.specs.declared.lock.Base.{Base}
use Rattle.asl_code.specs.declared.lock.Base.TheVariants.{Reg, Global}
use Rattle.asl_code.specs.declared.lock.Lock.{Lock}
use Rattle.asl_code.specs.declared.lock.Lock.TheVariants as lock
use Rattle.asl_code.proofs.Versions.{limits_there, locks_set}
use Rattle.asl_code.proofs.BodyPlaces.{begin, begin-suc, lies_within}
use Rattle.asl_code.proofs.TestsTold.{element_at}

-- a list passes a test that each of its elements passes
pub all_pass : {X : Type 0} (test : X → Bool) (xs : List X) → ((n : ℕ) (x : X) → slice_get xs n ≡ Some x → test x ≡ true) → list_all test xs ≡ true
all_pass test [] each = refl
all_pass test (x ∷ xs) each = and_from _ _ (each zero x refl) (all_pass test xs (λ n y is. each (suc n) y is))

-- the same, from a fact of each element that gives the test
pub all_pass_from : {X : Type 0} (test : X → Bool) (P : X → Type 0) → ((x : X) → P x → test x ≡ true) → (xs : List X) → All P xs → list_all test xs ≡ true
all_pass_from test P gives [] all = refl
all_pass_from test P gives (x ∷ xs) all =
    and_from _ _ (gives x (All-head P x xs all)) (all_pass_from test P gives xs (All-tail P x xs all))

-- the body that is found for a place is that of a function, and the place lies in it
pub body_found : (first : ℕ) (fs : List Function) (pc : ℕ) (b : Body) → find (is_inside pc) (bodies_from first fs) ≡ Some b → (n : ℕ) × (f : Function) × (slice_get fs n ≡ Some f) × (b ≡ body_at (begin first fs n) f) × (begin first fs n ≤ pc) × (pc < begin first fs n + f.len)
body_found first [] pc b is = cc
body_found first (g ∷ fs) pc b is =
    elim (cases_Bool (is_inside pc (body_at first g))) [
      | inl here ↦
          let found : Some (body_at first g) ≡ Some b = sym (cond-true _ _ _ here) ∙ is in
          let same : body_at first g ≡ b = some_same found in
          let start : first ≡ begin first (g ∷ fs) zero = omega arith in
          let parts = and_parts (leb first pc) (ltb pc (first + g.len)) here in
          let low = leb-true _ _ parts.0 in
          let high = ltb-true _ _ parts.1 in
          (zero, g, refl, sym same ∙ ap (λ k. body_at k g) start, omega arith, omega arith)
      | inr later ↦
          let r : (n : ℕ) × (f : Function) × (slice_get fs n ≡ Some f) × (b ≡ body_at (begin (first + g.len) fs n) f) × (begin (first + g.len) fs n ≤ pc) × (pc < begin (first + g.len) fs n + f.len) = body_found (first + g.len) fs pc b (sym (cond-false _ _ _ later) ∙ is) in
          let e = begin-suc first g fs r.0 in
          (suc r.0, r.1, r.2, r.3 ∙ ap (λ k. body_at k r.1) (sym e), omega (arith, r.4), omega (arith, r.5))
    ]
  where
    some_same : {a c : Body} → Some a ≡ Some c → a ≡ c
    some_same e = cc

-- no place fails a test that each instruction passes in the body in which it lies
pub none_fails : (passes : Body → Instr → Bool) (i : Image) (pc : ℕ) → ((n : ℕ) (f : Function) (instr : Instr) → LiesIn i n pc f → slice_get i.code pc ≡ Some instr → passes (body_at (first_of i.functions n) f) instr ≡ true) → fails_at passes i pc ≡ false
none_fails passes i pc each = by_parts (body_of i pc) (slice_get i.code pc) refl refl
  where
    by_parts : (b : Option Body) (o : Option Instr) → body_of i pc ≡ b → slice_get i.code pc ≡ o → is_failure passes b o ≡ false
    by_parts None o found is = refl
    by_parts (Some b) None found is = refl
    by_parts (Some b) (Some instr) found is =
        let r = body_found 0 i.functions pc b found in
        let start : begin 0 i.functions r.0 ≡ first_of i.functions r.0 = omega arith in
        let same : b ≡ body_at (first_of i.functions r.0) r.1 = r.3 ∙ ap (λ k. body_at k r.1) start in
        ap (λ c. not (passes c instr)) same
        ∙ ap not (each r.0 r.1 instr (record { function = r.2; low = omega (arith, r.4); high = omega (arith, r.5) }) is)

-- a place that lies in a body is inside it
lies_inside : (i : Image) (n pc : ℕ) (f : Function) → LiesIn i n pc f → is_inside pc (body_at (first_of i.functions n) f) ≡ true
lies_inside i n pc f at = and_from _ _ (le-leb _ _ at.low) (lt-ltb _ _ at.high)

-- an operand that fits passes each line
fit_target_there : (i : Image) (n : ℕ) (f : Function) (o : Operand) → FitsOperand i n f o → target_there i (body_at (first_of i.functions n) f) o ≡ true
fit_target_there i n f (operand.Target target) fits = lies_inside i n target f fits
fit_target_there i n f (operand.Callee first function) fits = lt-ltb _ _ (slice_get_within i.functions function fits.0 fits.1)
fit_target_there i n f o fits = refl

fit_register_there : (i : Image) (n : ℕ) (f : Function) (o : Operand) → FitsOperand i n f o → register_there i f o ≡ true
fit_register_there i n f (operand.Register register) fits = lt-ltb _ _ fits
fit_register_there i n f (operand.Callee first function) fits =
    ap (λ o. option_map_or (λ (g : Function). leb (first + g.params) f.regs) o true) fits.1 ∙ le-leb _ _ fits.2
fit_register_there i n f o fits = refl

fit_entry_there : (i : Image) (n : ℕ) (f : Function) (o : Operand) → FitsOperand i n f o → entry_there i o ≡ true
fit_entry_there i n f (operand.Global global) fits = lt-ltb _ _ fits
fit_entry_there i n f (operand.Cells cells) fits = lt-ltb _ _ fits
fit_entry_there i n f (operand.Class class) fits = lt-ltb _ _ fits
fit_entry_there i n f (operand.Locks list) fits = lt-ltb _ _ (slice_get_within i.lists list fits.0 fits.1)
fit_entry_there i n f o fits = refl

fit_base : (i : Image) (f : Function) (b : Base) → FitsBase i f b → has_base_register f b ≡ true
fit_base i f (Reg r) fits = lt-ltb _ _ fits
fit_base i f (Global g) fits = refl

fit_lock : (i : Image) (f : Function) (l : Lock) → FitsLock i f l → has_lock_base f l ≡ true
fit_lock i f (lock.Root effect) fits = refl
fit_lock i f (lock.Class class effect) fits = refl
fit_lock i f (lock.Expr expr effect) fits = fit_base i f expr.base fits

fit_bases_there : (i : Image) (n : ℕ) (f : Function) (o : Operand) → FitsOperand i n f o → bases_there i f o ≡ true
fit_bases_there i n f (operand.Locks list) fits =
    ap (λ o. option_map_or (list_all (has_lock_base f)) o true) fits.1
    ∙ all_pass_from (has_lock_base f) (FitsLock i f) (fit_lock i f) fits.0 fits.2
fit_bases_there i n f o fits = refl

-- so does an instruction
all_fit : {X : Type 0} (test : X → Bool) (P : X → Type 0) → ((x : X) → P x → test x ≡ true) → (xs : List X) → AllByRecursion P xs → list_all test xs ≡ true
all_fit test P gives [] all = refl
all_fit test P gives (x ∷ xs) all = and_from _ _ (gives x all.0) (all_fit test P gives xs all.1)

pub fit_target : (i : Image) (n : ℕ) (f : Function) (instr : Instr) → FitsInstr i n f instr → has_target i (body_at (first_of i.functions n) f) instr ≡ true
fit_target i n f instr fits = all_fit (target_there i (body_at (first_of i.functions n) f)) (FitsOperand i n f) (fit_target_there i n f) (operands instr) fits

pub fit_registers : (i : Image) (n : ℕ) (f : Function) (instr : Instr) → FitsInstr i n f instr → has_registers i f instr ≡ true
fit_registers i n f instr fits = all_fit (register_there i f) (FitsOperand i n f) (fit_register_there i n f) (operands instr) fits

pub fit_operands : (i : Image) (n : ℕ) (f : Function) (instr : Instr) → FitsInstr i n f instr → has_operands i instr ≡ true
fit_operands i n f instr fits = all_fit (entry_there i) (FitsOperand i n f) (fit_entry_there i n f) (operands instr) fits

pub fit_bases : (i : Image) (n : ℕ) (f : Function) (instr : Instr) → FitsInstr i n f instr → has_list_bases i f instr ≡ true
fit_bases i n f instr fits = all_fit (bases_there i f) (FitsOperand i n f) (fit_bases_there i n f) (operands instr) fits

-- what is there passes the test of the tables
fit_has_base : (i : Image) (b : Base) → HasBase i b → has_base i b ≡ true
fit_has_base i (Reg r) there = refl
fit_has_base i (Global g) there = lt-ltb _ _ there

fit_has_lock : (i : Image) (l : Lock) → HasLock i l → has_lock i l ≡ true
fit_has_lock i (lock.Root effect) there = refl
fit_has_lock i (lock.Class class effect) there = lt-ltb _ _ there
fit_has_lock i (lock.Expr expr effect) there = fit_has_base i expr.base there

-- each body is that of a function
pub body_from : (first : ℕ) (fs : List Function) (n : ℕ) (b : Body) → slice_get (bodies_from first fs) n ≡ Some b → (f : Function) × (slice_get fs n ≡ Some f) × (b ≡ body_at (begin first fs n) f)
body_from first [] n b is = cc
body_from first (g ∷ fs) zero b is =
    let same : body_at first g ≡ b = cc in
    let start : first ≡ begin first (g ∷ fs) zero = omega arith in
    (g, refl, sym same ∙ ap (λ k. body_at k g) start)
body_from first (g ∷ fs) (suc n) b is =
    let r : (f : Function) × (slice_get fs n ≡ Some f) × (b ≡ body_at (begin (first + g.len) fs n) f) = body_from (first + g.len) fs n b is in
    (r.0, r.1, r.2 ∙ ap (λ k. body_at k r.0) (sym (begin-suc first g fs n)))

-- the last instruction of each body ends it, since after any other the body continues
pub fit_end : (i : Image) → FitsImage i → (n : ℕ) (f : Function) → slice_get i.functions n ≡ Some f → has_end i.code (body_at (first_of i.functions n) f) ≡ true
fit_end i facts n f is =
    let pc = first_of i.functions n + f.len - 1 in
    let some : 0 < f.len = (facts.function_fits n f is).some in
    let at : LiesIn i n pc f = record { function = is; low = omega arith; high = omega arith } in
    let within : pc < length i.code = omega (arith, lies_within i n pc f at, facts.total) in
    let instr : (x : Instr) × (slice_get i.code pc ≡ Some x) = element_at i.code pc within in
    elim (cases_Bool (is_end instr.0)) [
      | inl ends ↦ ap (λ o. option_map_or is_end o false) instr.1 ∙ ends
      | inr ends ↦
          let next : LiesIn i n (pc + 1) f = facts.goes_on n pc f instr.0 at instr.1 ends in
          absurd (omega (arith, next.high))
    ]

-- the facts give each test of the whole image
pub facts_limits : (i : Image) → FitsImage i → keeps_limits i ≡ true
facts_limits i facts =
    let there = limits_there i.version facts.version in
    let most : most_locks i.version ≡ there.0.locks = sym (locks_set i.version there.0 there.1) in
    let sizes = and_from _ _ (and_from _ _ (and_from _ _ (and_from _ _ (le-leb _ _ facts.few_classes) (le-leb _ _ facts.few_globals)) (le-leb _ _ facts.few_functions)) (le-leb _ _ facts.few_instrs)) (le-leb _ _ facts.few_lists) in
    ap (λ o. option_map_or (λ l. keeps_counts l i) o false) there.1
    ∙ and_from _ _
    (and_from _ _ sizes (all_pass keeps_function_limits i.functions (λ n f is. let fits : FitsFunction f = facts.function_fits n f is in and_from _ _ (le-leb _ _ fits.few_params) (le-leb _ _ fits.few_regs))))
    (all_pass (keeps_list_limit there.0) i.lists (λ n locks is. le-leb _ _ (subst (λ m. length locks ≤ m) most (facts.few_locks n locks is))))

pub facts_tables : (i : Image) → FitsImage i → has_tables i ≡ true
facts_tables i facts =
    and_from _ _
    (all_pass (λ class. ltb class i.classes) i.globals (λ n class is. lt-ltb _ _ (facts.global_fits n class is)))
    (all_pass (list_all (has_lock i)) i.lists (λ n locks is. all_pass_from (has_lock i) (HasLock i) (fit_has_lock i) locks (facts.list_fits n locks is)))

pub facts_entry : (i : Image) → FitsImage i → has_entry i ≡ true
facts_entry i facts =
    ap (λ o. option_map_or (λ (f : Function). f.params == 1) o false) facts.entry.1 ∙ eq-eqb _ _ facts.entry.2

pub facts_ranges : (i : Image) → FitsImage i → has_ranges i ≡ true
facts_ranges i facts =
    and_from _ _
    (all_pass has_range i.functions (λ n f is. let fits : FitsFunction f = facts.function_fits n f is in and_from _ _ (lt-ltb _ _ fits.some) (le-leb _ _ fits.params)))
    (eq-eqb _ _ facts.total)

pub facts_ends : (i : Image) → FitsImage i → has_ends i ≡ true
facts_ends i facts =
    all_pass (has_end i.code) (bodies_from 0 i.functions) (λ n b is.
    let r : (f : Function) × (slice_get i.functions n ≡ Some f) × (b ≡ body_at (begin 0 i.functions n) f) = body_from 0 i.functions n b is in
    let start : begin 0 i.functions n ≡ first_of i.functions n = omega arith in
    ap (has_end i.code) (r.2 ∙ ap (λ k. body_at k r.0) start) ∙ fit_end i facts n r.0 r.1)

-- an image of which all facts hold is verified
pub verified_from_facts : (i : Image) → FitsImage i → IsVerified i
verified_from_facts i facts fault.Limit = ap not (facts_limits i facts)
verified_from_facts i facts fault.Table = ap not (facts_tables i facts)
verified_from_facts i facts fault.NoEntry = ap not (facts_entry i facts)
verified_from_facts i facts fault.FunctionRange = ap not (facts_ranges i facts)
verified_from_facts i facts fault.FallsOut = ap not (facts_ends i facts)
verified_from_facts i facts (fault.Target pc) = none_fails (has_target i) i pc (λ n f instr at is. fit_target i n f instr (facts.instr_fits n pc f instr at is))
verified_from_facts i facts (fault.Register pc) = none_fails (λ b. has_registers i b.function) i pc (λ n f instr at is. fit_registers i n f instr (facts.instr_fits n pc f instr at is))
verified_from_facts i facts (fault.Operand pc) = none_fails (λ b. has_operands i) i pc (λ n f instr at is. fit_operands i n f instr (facts.instr_fits n pc f instr at is))
verified_from_facts i facts (fault.ListBase pc) = none_fails (λ b. has_list_bases i b.function) i pc (λ n f instr at is. fit_bases i n f instr (facts.instr_fits n pc f instr at is))

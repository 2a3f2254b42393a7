-- What a verified image gives: what holds of each part, and of the instruction at each place.
use Rattle.std.proofs.Common.{◌≡◌, ℕ, ◌+◌, ◌-◌, ◌<◌, ◌≤◌, true, false, Some, length, ◌==◌, ltb, leb, eqb, slice_get, ap, sym, subst, ◌∙◌, inl, inr, arith}
use Rattle.std.specs.List.{list_all}
use Rattle.std.specs.Option.{option_map_or}
use Rattle.std.proofs.lemmas.Bool.{cases_lt, both_ways, and_parts, eqb-true, ltb-true, leb-true, not-false}
use Rattle.asl_code.specs.Bodies.{bodies_from, total_len, first_of}
use Rattle.asl_code.specs.Fits.{LiesIn, FitsFunction, FitsInstr, FitsImage, HasLock}
use Rattle.asl_code.specs.Rules.{body_at}
use Rattle.asl_code.specs.Verified.{keeps_limits, keeps_counts, keeps_function_limits, keeps_list_limit, has_lock, has_range, has_end, is_end, has_target, has_registers, has_operands, has_list_bases, IsVerified}
use Rattle.asl_code.specs.Versions.{limits_of}
use Rattle.asl_code.specs.declared.image.Function.{Function}
use Rattle.asl_code.specs.declared.image.Image.{Image}
use Rattle.asl_code.specs.declared.fault.VerifyFault.TheVariants as fault
use Rattle.asl_code.specs.declared.instr.Instr.{Instr}
use Rattle.asl_code.specs.declared.image_limits.Limits.{Limits}
use Rattle.asl_code.proofs.Versions.{version_of, locks_set}
use Rattle.asl_code.proofs.BodyPlaces.{begin, lies_somewhere, lies_within, lies_first, body_there}
use Rattle.asl_code.proofs.TestsTold.{passes_at, all_told, told_some, element_at, limits_kept, tables_there, ranges_there, passed_at, told_table, told_instr}

-- the instruction at a place fits the function in whose body it lies
pub fits_at : (i : Image) → IsVerified i → (n pc : ℕ) (f : Function) (instr : Instr) → LiesIn i n pc f → slice_get i.code pc ≡ Some instr → FitsInstr i n f instr
fits_at i v n pc f instr at is =
    told_instr i n f instr at.function (and_parts _ _ (tables_there i v)).1
    (passed_at (has_target i) i n pc f instr at is (v (fault.Target pc)))
    (passed_at (λ b. has_registers i b.function) i n pc f instr at is (v (fault.Register pc)))
    (passed_at (λ b. has_operands i) i n pc f instr at is (v (fault.Operand pc)))
    (passed_at (λ b. has_list_bases i b.function) i n pc f instr at is (v (fault.ListBase pc)))

-- after an instruction that ends no function, the next place lies in the same body
pub next_at : (i : Image) → IsVerified i → (n pc : ℕ) (f : Function) (instr : Instr) → LiesIn i n pc f → slice_get i.code pc ≡ Some instr → is_end instr ≡ false → LiesIn i n (pc + 1) f
next_at i v n pc f instr at is ends =
    elim (cases_lt (pc + 1) (first_of i.functions n + f.len)) [
      | inl lt ↦ record { function = at.function; low = omega (arith, at.low); high = lt }
      | inr ge ↦
          let last : begin 0 i.functions n + f.len - 1 ≡ pc = omega (arith, at.low, at.high) in
          let end : has_end i.code (body_at (begin 0 i.functions n) f) ≡ true = passes_at (has_end i.code) (bodies_from 0 i.functions) n (body_at (begin 0 i.functions n) f) (not-false _ (v fault.FallsOut)) (body_there 0 i.functions n f at.function) in
          absurd (both_ways _ ends (sym (ap (λ o. option_map_or is_end o false) (ap (slice_get i.code) last ∙ is)) ∙ end))
    ]

-- the entry function is there, with its one parameter
pub entry_of : (i : Image) → IsVerified i → (f : Function) × (slice_get i.functions i.start ≡ Some f) × (f.params ≡ 1)
entry_of i v =
    let e = told_some (λ (f : Function). f.params == 1) (slice_get i.functions i.start) (not-false _ (v fault.NoEntry)) in
    (e.0, e.1, eqb-true _ _ e.2)

-- each function keeps the limits and has what it must
pub told_function : (f : Function) → keeps_function_limits f ≡ true → has_range f ≡ true → FitsFunction f
told_function f limits range =
    record {
      some = ltb-true _ _ (and_parts _ _ range).0;
      params = leb-true _ _ (and_parts _ _ range).1;
      few_params = leb-true _ _ (and_parts _ _ limits).0;
      few_regs = leb-true _ _ (and_parts _ _ limits).1;
    }

-- the version that keeps the limits is there, and the counts keep what it sets
pub counts_kept : (i : Image) → keeps_limits i ≡ true → (l : Limits) × (limits_of i.version ≡ Some l) × (keeps_counts l i ≡ true)
counts_kept i kept = told_some (λ l. keeps_counts l i) (limits_of i.version) kept

-- all facts of a verified image
pub image_fits : (i : Image) → IsVerified i → FitsImage i
image_fits i v =
    let set = counts_kept i (limits_kept i v) in
    let lists = and_parts _ (list_all (keeps_list_limit set.0) i.lists) set.2 in
    let functions = and_parts _ (list_all keeps_function_limits i.functions) lists.0 in
    let few_lists = and_parts _ (leb (length i.lists) 1024) functions.0 in
    let few_instrs = and_parts _ (leb (length i.code) 65535) few_lists.0 in
    let few_functions = and_parts _ (leb (length i.functions) 256) few_instrs.0 in
    let few_globals = and_parts _ (leb (length i.globals) 1024) few_functions.0 in
    let tables = and_parts (list_all (λ class. ltb class i.classes) i.globals) (list_all (list_all (has_lock i)) i.lists) (tables_there i v) in
    let ranges = and_parts (list_all has_range i.functions) (eqb (total_len i.functions) (length i.code)) (ranges_there i v) in
    record {
      version = version_of i.version set.0 set.1;
      few_classes = leb-true _ _ few_globals.0;
      few_globals = leb-true _ _ few_globals.1;
      few_functions = leb-true _ _ few_functions.1;
      few_instrs = leb-true _ _ few_instrs.1;
      few_lists = leb-true _ _ few_lists.1;
      global_fits = λ n class is. ltb-true _ _ (passes_at (λ c. ltb c i.classes) i.globals n class tables.0 is);
      few_locks = λ n locks is. subst (λ m. length locks ≤ m) (locks_set i.version set.0 set.1) (leb-true _ _ (passes_at (keeps_list_limit set.0) i.lists n locks lists.1 is));
      list_fits = λ n locks is. all_told (has_lock i) (HasLock i) (told_table i) locks (passes_at (list_all (has_lock i)) i.lists n locks tables.1 is);
      entry = entry_of i v;
      function_fits = λ n f is. told_function f (passes_at keeps_function_limits i.functions n f functions.1 is) (passes_at has_range i.functions n f ranges.0 is);
      total = eqb-true _ _ ranges.1;
      instr_fits = fits_at i v;
      goes_on = next_at i v;
    }

-- at each place of a body of a verified image stands an instruction
pub instr_there : (i : Image) → IsVerified i → (n pc : ℕ) (f : Function) → LiesIn i n pc f → (instr : Instr) × (slice_get i.code pc ≡ Some instr)
instr_there i v n pc f at =
    element_at i.code pc (omega (arith, lies_within i n pc f at, (image_fits i v).total))

-- each place of a verified image's code lies in a body
pub place_lies : (i : Image) → IsVerified i → (pc : ℕ) → pc < length i.code → (n : ℕ) × (f : Function) × LiesIn i n pc f
place_lies i v pc lt = lies_somewhere i pc (omega (arith, (image_fits i v).total))

-- the body of a verified image's function begins with its first instruction
pub function_begins : (i : Image) → IsVerified i → (n : ℕ) (f : Function) → slice_get i.functions n ≡ Some f → LiesIn i n (first_of i.functions n) f
function_begins i v n f is = lies_first i n f is ((image_fits i v).function_fits n f is).some

-- each place in a body of a verified image is below the most instructions that there may be
pub place_small : (i : Image) → IsVerified i → (n pc : ℕ) (f : Function) → LiesIn i n pc f → pc < 65535
place_small i v n pc f at =
    omega (arith, lies_within i n pc f at, (image_fits i v).total, (image_fits i v).few_instrs)

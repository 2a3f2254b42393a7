-- For each instruction that works on registers, cells and objects, and for jumps: what the computed instruction leaves is a line of
-- the table, whatever its tests tell.
use Rattle.std.proofs.Common.{◌≡◌, ◌≢◌, ℕ, ℤ, ◌+◌, ◌<◌, ◌≤◌, ◌==◌, ltb, ◌++◌, true, false, cond, [], ◌∷◌, Option, Some, None, Ok, length, slice_get, refl, ap, sym, ◌∙◌, inl, inr, arith, eqb-true, eq-eqb}
use Rattle.std.specs.Prelude.{IsSome, unwrap_or}
use Rattle.std.specs.Prelude.{int_lt, option_map, option_and_then}
use Rattle.std.proofs.lemmas.Bool.{ltb-true, ltb-false}
use Rattle.std.proofs.lemmas.Int.{ints}
use Rattle.std.proofs.lemmas.Option.{slice_get_cases}
use Rattle.asl_code.specs.declared.image.Image.{Image}
use Rattle.asl_code.specs.declared.instr.Instr.{Instr}
use Rattle.asl_code.specs.declared.instr.Instr.TheVariants as instr
use Rattle.asl_code.specs.declared.value.Value.{Value}
use Rattle.asl_code.specs.declared.value.Value.TheVariants.{Int, Null, Addr}
use Rattle.asl_code.specs.declared.value.Effect.TheVariants.{Read, Write}
use Rattle.asl_machine.specs.declared.fate.Fate.TheVariants as fate
use Rattle.asl_machine.specs.declared.fault.Fault.TheVariants as fault
use Rattle.asl_machine.specs.declared.reply.Reply.TheVariants as reply
use Rattle.asl_machine.specs.State.{Object, Activity, Running, State, cell_at, size_of, new_object}
use Rattle.asl_expression.specs.Expression.{cell_of}
use Rattle.asl_machine.specs.Cover.{cover}
use Rattle.asl_machine.specs.Access.{Points}
use Rattle.asl_machine.specs.Step.{At, advanced_with, going_on, having_made, after, Reads, is_allowed, is_zero, FailsIntegers, Line}
use Rattle.asl_machine.specs.StepFunction.{Left, set_left, computed, compared, truth, same_value, jump_left, address_or_bounds, address_moved, make_left, allowed_cell, loaded, accessed, store_left, turn_by, register_of}
use Rattle.asl_machine.proofs.PackedValues.{same_is, same_self}
use Rattle.asl_machine.proofs.InstrGroups.{here_place}

-- the line that a step by what an instruction leaves would be
abbrev pub IsLine : At → Instr → Left → Type 0
IsLine at i l = let turn = turn_by at.thread l in Line at i turn.reply (after at.state at.thread turn.thread turn.objects turn.holding)

-- the place in the table's words: the program, the state, the thread and its activity
abbrev pub at_of : Image → State → ℕ → Activity → At
at_of image s t a = record { image = image; state = s; thread = t; activity = a }

-- a register that is there has a value, which the computed step reads
pub read_there : (a : Activity) (r : ℕ) → r < length a.top.regs → slice_get a.top.regs r ≡ Some (register_of a.top r)
read_there a r lt =
    elim (slice_get_cases a.top.regs r).1 [
      | inl found ↦ found.2 ∙ ap (λ (v : Value). Some v) (sym (ap (λ o. unwrap_or o Null) found.2))
      | inr past ↦ let le : length a.top.regs ≤ r = past.0 in absurd (omega arith)
    ]

-- where the thread is when the register has the value
abbrev with_value : At → ℕ → Value → State
with_value at to value = after at.state at.thread (Running (going_on at.activity at.activity.depth (advanced_with to value at.activity.top))) at.state.objects at.state.holding

-- the line of an operation on two integers
pub computed_line : (at : At) (i : Instr) (operation : ℤ → ℤ → Value) (to left right : ℕ) →
    ((x y : ℤ) → Reads at left (Int x) → Reads at right (Int y) → Line at i reply.Ran (with_value at to (operation x y))) →
    ((n : State) → FailsIntegers at left right n → Line at i (reply.Fault fault.BadType) n) → (x y : Value) → Reads at left x → Reads at right y →
    IsLine at i (set_left (here_place at.state at.thread at.activity) to (computed operation x y))
computed_line at i operation to left right good bad (Int x) (Int y) p q = good x y p q
computed_line at i operation to left right good bad (Int x) Null p q = bad _ (Int x, Null, p, q, (refl, refl))
computed_line at i operation to left right good bad (Int x) (Addr o k) p q = bad _ (Int x, Addr o k, p, q, (refl, refl))
computed_line at i operation to left right good bad Null y p q = bad _ (Null, y, p, q, (refl, refl))
computed_line at i operation to left right good bad (Addr o k) y p q = bad _ (Addr o k, y, p, q, (refl, refl))

-- the test of the order of two integers
pub below_line : (at : At) (to left right : ℕ) (x y : ℤ) → Reads at left (Int x) → Reads at right (Int y) → Line at (instr.LessThan to left right) reply.Ran (with_value at to (compared x y))
below_line at to left right x y p q =
    elim (int_lt x y) as (λ b. int_lt x y ≡ b → Line at (instr.LessThan to left right) reply.Ran (with_value at to (truth b))) [
      | true ↦ λ e. (x, y, p, q, inl (omega (arith, ints), refl))
      | false ↦ λ e. (x, y, p, q, inr (λ lower. omega (arith, ints), refl))
    ] refl

-- the test of two values
pub equal_line : (at : At) (to left right : ℕ) (x y : Value) → Reads at left x → Reads at right y →
    IsLine at (instr.Equals to left right) (set_left (here_place at.state at.thread at.activity) to (Ok (truth (same_value x y))))
equal_line at to left right x y p q =
    elim (same_value x y) as (λ b. same_value x y ≡ b → Line at (instr.Equals to left right) reply.Ran (with_value at to (truth b))) [
      | true ↦ λ e. (x, y, p, q, inl (same_is x y e, refl))
      | false ↦ λ e. (x, y, p, q, inr (λ is. (let yes = ap (same_value x) (sym is) ∙ same_self x in cc), refl))
    ] refl

-- a jump by a test of 0
pub jump_line : (at : At) (test target : ℕ) (v : Value) → Reads at test v →
    IsLine at (instr.JumpIfZero test target) (jump_left (here_place at.state at.thread at.activity) (cond (is_zero v) target (at.activity.top.pc + 1)))
jump_line at test target v p =
    elim (is_zero v) as (λ b. is_zero v ≡ b → IsLine at (instr.JumpIfZero test target) (jump_left (here_place at.state at.thread at.activity) (cond b target (at.activity.top.pc + 1)))) [
      | true ↦ λ e. (v, p, inl (e, refl))
      | false ↦ λ e. (v, p, inr (e, refl))
    ] refl

-- a value that is there is the one that is read
found_is : (o : Option Value) → IsSome o → o ≡ Some (unwrap_or o Null)
found_is None h = let e = h in cc
found_is (Some v) h = refl

-- a `load`: a number and null are no address, and a cell is read or is unprotected
pub load_line : (at : At) (to address : ℕ) (v : Value) → Reads at address v → Points at.state.objects v →
    IsLine at (instr.Load to address) (set_left (here_place at.state at.thread at.activity) to
    (loaded at.state.objects (accessed (cover at.state.holding at.activity.fresh) at.state.objects at.thread at.activity.depth Read v)))
load_line at to address (Int x) p q = (x, p, refl)
load_line at to address Null p q = (p, refl)
load_line at to address (Addr o i) p q =
    elim (is_allowed at Read (cell_of o i)) as (λ b. is_allowed at Read (cell_of o i) ≡ b →
    IsLine at (instr.Load to address) (set_left (here_place at.state at.thread at.activity) to (loaded at.state.objects (allowed_cell b Read (cell_of o i))))) [
      | true ↦ λ e. record {
        cell = cell_of o i;
        value = unwrap_or (cell_at at.state.objects (cell_of o i)) Null;
        reads_address = p;
        allowed = e;
        there = found_is (cell_at at.state.objects (cell_of o i)) q;
        sets = refl;
      }
      | false ↦ λ e. record { reads_address = p; forbidden = e; named = refl; fails = refl }
    ] refl

-- an address that is moved stays in its object or is out of bounds
pub field_line : (at : At) (to from places : ℕ) (v : Value) → Reads at from v → Points at.state.objects v →
    IsLine at (instr.FieldAddress to from places) (set_left (here_place at.state at.thread at.activity) to (address_moved at.state.objects places v))
field_line at to from places (Int x) p q = (x, p, refl)
field_line at to from places Null p q = (p, refl)
field_line at to from places (Addr o i) p q =
    elim (slice_get at.state.objects o) as (λ x. slice_get at.state.objects o ≡ x → IsSome (option_and_then (λ (r : Object). slice_get r.cells i) x) →
    IsLine at (instr.FieldAddress to from places) (set_left (here_place at.state at.thread at.activity) to
    (address_or_bounds (option_and_then (λ size. cond (ltb (i + places) size) (Some (cell_of o (i + places))) None) (option_map (λ (r : Object). length r.cells) x))))) [
      | None ↦ λ e k. let f = k in cc
      | Some r ↦ λ e k. inside at to from places o i (length r.cells) p (ap (option_map (λ (z : Object). length z.cells)) e)
    ] refl q
  where
    inside : (at : At) (to from places o i size : ℕ) → Reads at from (Addr o i) → size_of at.state.objects o ≡ Some size →
        IsLine at (instr.FieldAddress to from places) (set_left (here_place at.state at.thread at.activity) to (address_or_bounds (cond (ltb (i + places) size) (Some (cell_of o (i + places))) None)))
    inside at to from places o i size p sized =
        elim (ltb (i + places) size) as (λ b. ltb (i + places) size ≡ b →
        IsLine at (instr.FieldAddress to from places) (set_left (here_place at.state at.thread at.activity) to (address_or_bounds (cond b (Some (cell_of o (i + places))) None)))) [
          | true ↦ λ e. record { cell = cell_of o i; size = size; reads_address = p; sized = sized; inside = ltb-true _ _ e; sets = refl }
          | false ↦ λ e. record { cell = cell_of o i; size = size; reads_address = p; sized = sized; outside = ltb-false _ _ e; fails = refl }
        ] refl

-- a `new`, or too many objects
pub make_line : (at : At) (to cells class : ℕ) → length at.state.objects ≤ 65536 →
    IsLine at (instr.New to cells class) (make_left at.image.version (here_place at.state at.thread at.activity) to cells class)
make_line at to cells class few =
    let objects = at.state.objects in
    elim (length objects == 65536) as (λ b. (length objects == 65536) ≡ b →
    IsLine at (instr.New to cells class) (record {
      fate = cond b (fate.Fails fault.Full) fate.Continues;
      activity = cond b at.activity (having_made at.image.version at.activity to (length objects));
      objects = cond b objects (objects ++ new_object class cells ∷ []);
      holding = at.state.holding;
    })) [
      | true ↦ λ e. (eqb-true _ _ e, refl)
      | false ↦ λ e. let not_most : length objects ≢ 65536 = λ z. let f = eq-eqb (length objects) 65536 z in cc in record { room = omega arith; makes = refl }
    ] refl

-- a `store`: as a `load`, but for the cell, which is written
pub store_line : (at : At) (address from : ℕ) (v w : Value) → Reads at address v → Reads at from w →
    IsLine at (instr.Store address from) (store_left (here_place at.state at.thread at.activity) w (accessed (cover at.state.holding at.activity.fresh) at.state.objects at.thread at.activity.depth Write v))
store_line at address from (Int x) w p q = (x, p, refl)
store_line at address from Null w p q = (p, refl)
store_line at address from (Addr o i) w p q =
    elim (is_allowed at Write (cell_of o i)) as (λ b. is_allowed at Write (cell_of o i) ≡ b →
    IsLine at (instr.Store address from) (store_left (here_place at.state at.thread at.activity) w (allowed_cell b Write (cell_of o i)))) [
      | true ↦ λ e. record { cell = cell_of o i; value = w; reads_address = p; reads_value = q; allowed = e; goes_on = refl }
      | false ↦ λ e. record { reads_address = p; forbidden = e; named = refl; fails = refl }
    ] refl

-- For `ret`, `call`, `rel` and `acq`: what the computed instruction leaves is a line of the table, whatever its tests tell.
use Rattle.std.proofs.Common.{◌≡◌, ◌≢◌, ℕ, ◌+◌, ◌-◌, ◌<◌, ◌≤◌, ◌==◌, Bool, true, false, cond, List, [], ◌∷◌, Some, None, length, slice_get, refl, ap, inl, inr, arith, eqb-true, eq-eqb}
use Rattle.std.specs.Prelude.{IsSomeAnd}
use Rattle.asl_code.specs.declared.image.Function.{Function}
use Rattle.asl_code.specs.declared.instr.Instr.TheVariants as instr
use Rattle.asl_code.specs.declared.value.Value.{Value}
use Rattle.asl_lock_forest.specs.Holding.{Holding, Request, CanGrant, grant, release}
use Rattle.asl_machine.specs.declared.fate.Fate.TheVariants as fate
use Rattle.asl_machine.specs.declared.fault.Fault.TheVariants as fault
use Rattle.asl_machine.specs.State.{Object, Frame, Running}
use Rattle.asl_machine.specs.Calls.{frame_count, with_result, IsAwaited}
use Rattle.asl_machine.specs.Step.{At, advanced, going_on, called, returned, left_last, after, Reads, ContinuesAt, Asks}
use Rattle.asl_machine.specs.StepFunction.{left_alone, call_left, return_left, activity_moved, release_left}
use Rattle.asl_machine.proofs.InstrGroups.{here_place}
use Rattle.asl_machine.proofs.Invariant.{after_same}
use Rattle.asl_machine.proofs.ValueLines.{IsLine}

not_zero : (n : ℕ) → (n == 0) ≡ false → 0 < n
not_zero n e = let ne : n ≢ 0 = λ z. let f = eq-eqb n 0 z in cc in omega arith

-- a `ret` to the frame below, and one of the last frame
pub return_line : (at : At) (from : ℕ) (v : Value) (below : List Frame) → at.activity.below ≡ below → IsAwaited at.activity.top.result below → Reads at from v →
    IsLine at (instr.Return from) (return_left (here_place at.state at.thread at.activity) v below)
return_line at from v [] last awaited p =
    elim (at.activity.depth == 0) as (λ b. (at.activity.depth == 0) ≡ b →
    IsLine at (instr.Return from) (left_alone (here_place at.state at.thread at.activity) (cond b (fate.Ends v) (fate.Fails fault.Open)))) [
      | true ↦ λ e. inr (record { value = v; last = last; outside = eqb-true _ _ e; reads_value = p; ends = refl })
      | false ↦ λ e. (last, not_zero _ e, refl)
    ] refl
return_line at from v (f ∷ fs) waiting awaited p =
    elim at.activity.top.result as (λ r. at.activity.top.result ≡ r → IsSomeAnd r (λ register. register < length f.regs) →
    IsLine at (instr.Return from) (return_left (here_place at.state at.thread at.activity) v (f ∷ fs))) [
      | None ↦ λ e k. absurd k
      | Some to ↦ λ e k. inl (record {
        caller = f;
        others = fs;
        to = to;
        value = v;
        waiting = waiting;
        awaits = e;
        reads_value = p;
        returns = ap (λ r. after at.state at.thread (Running (returned at.activity (with_result r v f) fs)) at.state.objects at.state.holding) e;
      })
    ] refl awaited

-- a `call`, or too many frames
pub call_line : (at : At) (to first n : ℕ) (callee : Function) → slice_get at.image.functions n ≡ Some callee → length at.activity.below < 256 →
    IsLine at (instr.Call to first n) (call_left at.image (here_place at.state at.thread at.activity) to first n)
call_line at to first n callee there few =
    let a = at.activity in
    elim (frame_count a == 256) as (λ b. (frame_count a == 256) ≡ b →
    IsLine at (instr.Call to first n) (record { fate = cond b (fate.Fails fault.Stack) fate.Continues; activity = cond b a (called at.image a to first n); objects = at.state.objects; holding = at.state.holding })) [
      | true ↦ λ e. (eqb-true _ _ e, refl)
      | false ↦ λ e.
          let not_most : frame_count a ≢ 256 = λ z. let f = eq-eqb (frame_count a) 256 z in cc in
          record { callee = callee; room = omega arith; is = there; calls = refl }
    ] refl

-- going on in a number of sections is going on in an equal number
same_depth : (at : At) (d e : ℕ) (objects : List Object) (holding : Holding) → d ≡ e →
    ContinuesAt at e objects holding (after at.state at.thread (Running (going_on at.activity d (advanced at.activity.top))) objects holding)
same_depth at d e objects holding is = ap (λ n. after at.state at.thread (Running (going_on at.activity n (advanced at.activity.top))) objects holding) is

-- a `rel`, by the tests of its depth
release_lines : (at : At) (z m : Bool) → ((at.activity.depth == 0) ≡ z) → ((at.activity.depth == 1) ≡ m) →
    IsLine at instr.Release (record {
      fate = cond z (fate.Fails fault.NoSection) fate.Continues;
      activity = cond z at.activity (cond m (left_last at.activity) (going_on at.activity (at.activity.depth - 1) (advanced at.activity.top)));
      objects = at.state.objects;
      holding = cond m (release at.state.holding at.thread) at.state.holding;
    })
release_lines at true true e k =
    let none : at.activity.depth ≡ 0 = eqb-true _ _ e in let one : at.activity.depth ≡ 1 = eqb-true _ _ k in absurd (omega arith)
release_lines at true false e k = (eqb-true _ _ e, refl)
release_lines at false true e k = inr (record { outer = eqb-true _ _ k; leaves = refl })
release_lines at false false e k =
    let some : 0 < at.activity.depth = not_zero _ e in
    let not_one : at.activity.depth ≢ 1 = λ z. let f = eq-eqb at.activity.depth 1 z in cc in
    inl (record { inner = omega arith; goes_on = refl })

pub release_line : (at : At) → IsLine at instr.Release (release_left (here_place at.state at.thread at.activity))
release_line at = release_lines at (at.activity.depth == 0) (at.activity.depth == 1) refl refl

-- an `acq`, by the tests of its depth and of its request
pub acquire_lines : (at : At) (list : ℕ) (request : Request) (z m free : Bool) → ((at.activity.depth == 0) ≡ z) → ((at.activity.depth == 255) ≡ m) →
    at.activity.depth ≤ 255 → (at.activity.depth ≡ 0 → Asks at list request) → (free ≡ true → CanGrant at.state.holding at.thread request) → (free ≡ false → ¬ CanGrant at.state.holding at.thread request) →
    slice_get at.state.threads at.thread ≡ Some (Running at.activity) →
    (let f = cond z (cond free fate.Continues fate.Waits) (cond m (fate.Fails fault.Deep) fate.Continues) in
    IsLine at (instr.Acquire list) (record {
      fate = f;
      activity = activity_moved f (at.activity.depth + 1) at.activity;
      objects = at.state.objects;
      holding = cond z (cond free (grant at.state.holding at.thread request) at.state.holding) at.state.holding;
    }))
acquire_lines at list request true m true e k small asks granted taken here =
    let none : at.activity.depth ≡ 0 = eqb-true _ _ e in
    inr (record {
      request = request;
      asks = asks none;
      free = granted refl;
      goes_on = same_depth at (at.activity.depth + 1) 1 at.state.objects (grant at.state.holding at.thread request) (omega arith);
    })
acquire_lines at list request true m false e k small asks granted taken here =
    record { request = request; asks = asks (eqb-true _ _ e); taken = taken refl; same = after_same at.state at.thread (Running at.activity) here }
acquire_lines at list request false true free e k small asks granted taken here = (eqb-true _ _ k, refl)
acquire_lines at list request false false free e k small asks granted taken here =
    let not_most : at.activity.depth ≢ 255 = λ z. let f = eq-eqb at.activity.depth 255 z in cc in
    inl (record { inside = not_zero _ e; room = omega arith; goes_on = refl })

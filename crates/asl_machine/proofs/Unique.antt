-- A step that the table allows is the computed one: so what the table says of a step is what the machine does.
use Rattle.std.proofs.Common.{◌≡◌, ℕ, ◌+◌, ◌==◌, true, false, Some, None, Result, Ok, Err, length, slice_get, refl, ap, sym, ◌∙◌, subst, inl, inr, arith, eq-eqb, ne_eqb}
use Rattle.std.proofs.lemmas.Bool.{lt-ltb, le-ltb, false_from_ne_true}
use Rattle.asl_code.specs.declared.image.Image.{Image}
use Rattle.asl_code.specs.declared.instr.Instr.{Instr}
use Rattle.asl_code.specs.declared.instr.Instr.TheVariants as instr
use Rattle.asl_code.specs.declared.value.Value.{Value}
use Rattle.asl_code.specs.declared.value.Value.TheVariants.{Int, Null}
use Rattle.asl_code.specs.declared.value.Effect.TheVariants.{Read, Write}
use Rattle.asl_lock_forest.specs.Holding.{CanGrant, can_grant, grant}
use Rattle.asl_machine.specs.declared.fault.Fault.{Fault}
use Rattle.asl_machine.specs.declared.fault.Fault.TheVariants as fault
use Rattle.asl_machine.specs.declared.reply.Reply.{Reply}
use Rattle.asl_machine.specs.declared.reply.Reply.TheVariants as reply
use Rattle.asl_machine.specs.State.{Activity, Thread, Running, Done, Failed, State, written}
use Rattle.asl_machine.specs.Calls.{frame_count}
use Rattle.asl_machine.specs.Request.{locks_of, request_of}
use Rattle.asl_machine.specs.Step.{advanced, going_on, returned, after, ContinuesAt, Line, StepOf, Step}
use Rattle.asl_machine.specs.StepFunction.{added, subtracted, compared, same_value, store_left, left_by, left_at, step_at, step_of, register_of}
use Rattle.asl_lock_forest.proofs.Grantable.{can_grant-tells, CanGrant-tested}
use Rattle.asl_machine.proofs.InstrGroups.{here_place}
use Rattle.asl_machine.proofs.Invariant.{after_same}
use Rattle.asl_machine.proofs.ValueLines.{at_of}
use Rattle.asl_machine.proofs.PackedValues.{same_is, same_self}
use Rattle.asl_machine.proofs.LinesLeft.{IsLeft, reads_is, only_set, only_unset, only_unstored, only_computed, only_uncomputed, lower, not_lower, only_equal, only_jump, moved_is, moved_tested, only_make, target_is, target_allowed, load_is, load_fails, zero_test, some_test, only_last, only_returned, only_call, only_release, only_acquire, goes_same, request_same}

-- each instruction's lines, one by one
only_line : (image : Image) (s : State) (t : ℕ) (a : Activity) → slice_get s.threads t ≡ Some (Running a) → (i : Instr) (r : Reply) (n : State) → Line (at_of image s t a) i r n →
    IsLeft (at_of image s t a) (left_by image (here_place s t a) i) r n
only_line image s t a here (instr.SetInt to number) reply.Ran n h = (refl, h)
only_line image s t a here (instr.SetNull to) reply.Ran n h = (refl, h)
only_line image s t a here (instr.Move to from) reply.Ran n h =
    let at = at_of image s t a in only_set at to _ h.0 n (ap {A = Value} {B = Result Value Fault} (λ w. Ok w) (reads_is at from _ h.1)) h.2
only_line image s t a here (instr.Add to left right) reply.Ran n h =
    only_computed (at_of image s t a) added to left right h.0 h.1 _ n h.2 h.3 refl h.4
only_line image s t a here (instr.Add to left right) (reply.Fault fault.BadType) n h = only_uncomputed (at_of image s t a) added to left right n h
only_line image s t a here (instr.Subtract to left right) reply.Ran n h =
    only_computed (at_of image s t a) subtracted to left right h.0 h.1 _ n h.2 h.3 refl h.4
only_line image s t a here (instr.Subtract to left right) (reply.Fault fault.BadType) n h = only_uncomputed (at_of image s t a) subtracted to left right n h
only_line image s t a here (instr.LessThan to left right) reply.Ran n h =
    let at = at_of image s t a in
    elim h.4 [
      | inl lower_left ↦ only_computed at compared to left right h.0 h.1 _ n h.2 h.3 (lower h.0 h.1 lower_left.0) lower_left.1
      | inr other ↦ only_computed at compared to left right h.0 h.1 _ n h.2 h.3 (not_lower h.0 h.1 other.0) other.1
    ]
only_line image s t a here (instr.LessThan to left right) (reply.Fault fault.BadType) n h = only_uncomputed (at_of image s t a) compared to left right n h
only_line image s t a here (instr.Equals to left right) reply.Ran n h =
    let at = at_of image s t a in
    elim h.4 [
      | inl same ↦ only_equal at to left right h.0 h.1 true n h.2 h.3 (ap (same_value h.0) (sym same.0) ∙ same_self h.0) same.1
      | inr other ↦ only_equal at to left right h.0 h.1 false n h.2 h.3 (false_from_ne_true _ (λ e. other.0 (same_is h.0 h.1 e))) other.1
    ]
only_line image s t a here (instr.GlobalAddress to global) reply.Ran n h = (refl, h)
only_line image s t a here (instr.FieldAddress to from places) reply.Ran n h =
    let at = at_of image s t a in
    only_set at to _ _ n (moved_tested at places from h.size h.cell true h.reads_address h.sized (lt-ltb _ _ h.inside)) h.sets
only_line image s t a here (instr.FieldAddress to from places) (reply.Fault fault.Null) n h =
    let at = at_of image s t a in only_unset at to _ fault.Null n (moved_is at places from Null h.0) h.1
only_line image s t a here (instr.FieldAddress to from places) (reply.Fault fault.BadType) n h =
    let at = at_of image s t a in only_unset at to _ fault.BadType n (moved_is at places from (Int h.0) h.1) h.2
only_line image s t a here (instr.FieldAddress to from places) (reply.Fault fault.Bounds) n h =
    let at = at_of image s t a in
    only_unset at to _ fault.Bounds n (moved_tested at places from h.size h.cell false h.reads_address h.sized (le-ltb _ _ h.outside)) h.fails
only_line image s t a here (instr.New to cells class) reply.Ran n h =
    let room = h.room in
    only_make (at_of image s t a) to cells class false reply.Ran n (ne_eqb (length s.objects) 65536 (λ e. absurd (omega arith))) (refl, h.makes)
only_line image s t a here (instr.New to cells class) (reply.Fault fault.Full) n h =
    only_make (at_of image s t a) to cells class true (reply.Fault fault.Full) n (eq-eqb (length s.objects) 65536 h.0) (refl, h.1)
only_line image s t a here (instr.Load to address) reply.Ran n h =
    let at = at_of image s t a in
    only_set at to _ h.value n (load_is s.objects _ h.cell h.value (target_allowed at Read address h.cell true h.reads_address h.allowed) h.there) h.sets
only_line image s t a here (instr.Load to address) (reply.Fault fault.Null) n h =
    let at = at_of image s t a in
    only_unset at to _ fault.Null n (load_fails s.objects _ fault.Null (target_is at Read address Null h.0)) h.1
only_line image s t a here (instr.Load to address) (reply.Fault fault.BadType) n h =
    let at = at_of image s t a in
    only_unset at to _ fault.BadType n (load_fails s.objects _ fault.BadType (target_is at Read address (Int h.0) h.1)) h.2
only_line image s t a here (instr.Load to address) (reply.Fault (fault.Unprotected cell effect)) n h =
    let at = at_of image s t a in
    only_unset at to _ (fault.Unprotected cell effect) n
    (load_fails s.objects _ (fault.Unprotected cell effect)
    (target_allowed at Read address cell false h.reads_address h.forbidden ∙ ap (λ e. Err (fault.Unprotected cell e)) (sym h.named))) h.fails
only_line image s t a here (instr.Store address from) reply.Ran n h =
    let at = at_of image s t a in
    let is : n ≡ after s t (Running (going_on a a.depth (advanced a.top))) (written s.objects h.cell (register_of a.top from)) s.holding =
    h.goes_on ∙ ap (λ v. after s t (Running (going_on a a.depth (advanced a.top))) (written s.objects h.cell v) s.holding) (sym (reads_is at from _ h.reads_value)) in
    subst (λ x. IsLeft at (store_left (here_place s t a) (register_of a.top from) x) reply.Ran n) (sym (target_allowed at Write address h.cell true h.reads_address h.allowed)) (refl, is)
only_line image s t a here (instr.Store address from) (reply.Fault fault.Null) n h =
    let at = at_of image s t a in only_unstored at _ _ fault.Null n (target_is at Write address Null h.0) h.1
only_line image s t a here (instr.Store address from) (reply.Fault fault.BadType) n h =
    let at = at_of image s t a in only_unstored at _ _ fault.BadType n (target_is at Write address (Int h.0) h.1) h.2
only_line image s t a here (instr.Store address from) (reply.Fault (fault.Unprotected cell effect)) n h =
    let at = at_of image s t a in
    only_unstored at _ _ (fault.Unprotected cell effect) n
    (target_allowed at Write address cell false h.reads_address h.forbidden ∙ ap (λ e. Err (fault.Unprotected cell e)) (sym h.named)) h.fails
only_line image s t a here (instr.Jump target) reply.Ran n h = (refl, h)
only_line image s t a here (instr.JumpIfZero test target) reply.Ran n h =
    let at = at_of image s t a in
    elim h.2 [
      | inl jumps ↦ only_jump at test target h.0 true n h.1 jumps.0 jumps.1
      | inr passes ↦ only_jump at test target h.0 false n h.1 passes.0 passes.1
    ]
only_line image s t a here (instr.Output from) (reply.Out value) n h =
    let at = at_of image s t a in (ap {A = Value} {B = Reply} (λ v. reply.Out v) (sym (reads_is at from value h.0)), h.1)
only_line image s t a here (instr.Call to first function) reply.Ran n h =
    let at = at_of image s t a in
    let room = h.room in
    only_call at to first function false reply.Ran n (ne_eqb (frame_count a) 256 (λ e. absurd (omega arith)))
    (refl, h.calls)
only_line image s t a here (instr.Call to first function) (reply.Fault fault.Stack) n h =
    only_call (at_of image s t a) to first function true (reply.Fault fault.Stack) n (eq-eqb (frame_count a) 256 h.0) (refl, h.1)
only_line image s t a here (instr.Return from) reply.Ran n h =
    let at = at_of image s t a in
    elim h [
      | inl returned ↦ only_returned at from n returned
      | inr ends ↦ only_last at ends.value _ true reply.Ran n ends.last (reads_is at from _ ends.reads_value) (zero_test _ ends.outside) (refl, ends.ends)
    ]
only_line image s t a here (instr.Return from) (reply.Fault fault.Open) n h =
    let at = at_of image s t a in only_last at _ _ false (reply.Fault fault.Open) n h.0 refl (some_test _ h.1) (refl, h.2)
only_line image s t a here (instr.Acquire list) reply.Ran n h =
    let at = at_of image s t a in
    let test = can_grant s.holding t (request_of s.objects a.top.regs (locks_of image list)) in
    elim h [
      | inl nests ↦
          let room = nests.room in
          only_acquire at _ false false test test reply.Ran n (some_test _ nests.inside) (ne_eqb a.depth 255 (λ e. absurd (omega arith))) refl (refl, nests.goes_on)
      | inr enters ↦
          let is = request_same at list enters.request enters.asks in
          let none = enters.asks.outside in
          let free : CanGrant s.holding t (request_of s.objects a.top.regs (locks_of image list)) = subst (CanGrant s.holding t) (sym is) enters.free in
          only_acquire at _ true (a.depth == 255) true test reply.Ran n (zero_test _ none) refl (CanGrant-tested s.holding t _ free)
          (refl, goes_same at 1 (a.depth + 1) s.objects _ n (omega arith) (subst (λ q. ContinuesAt at 1 s.objects (grant s.holding t q) n) (sym is) enters.goes_on))
    ]
only_line image s t a here (instr.Acquire list) reply.Blocked n h =
    let at = at_of image s t a in
    let request = request_of s.objects a.top.regs (locks_of image list) in
    let is = request_same at list h.request h.asks in
    let taken : can_grant s.holding t request ≡ false =
    false_from_ne_true _ (λ e. h.taken (subst (CanGrant s.holding t) is (can_grant-tells s.holding t request e))) in
    only_acquire at _ true (a.depth == 255) false _ reply.Blocked n (zero_test _ h.asks.outside) refl taken (refl, h.same ∙ sym (after_same s t (Running a) here))
only_line image s t a here (instr.Acquire list) (reply.Fault fault.Deep) n h =
    let at = at_of image s t a in
    let most = h.0 in
    only_acquire at _ false true _ _ (reply.Fault fault.Deep) n (some_test _ (omega arith)) (eq-eqb a.depth 255 most) refl (refl, h.1)
only_line image s t a here instr.Release reply.Ran n h =
    let at = at_of image s t a in
    elim h [
      | inl unnests ↦
          let inner = unnests.inner in
          only_release at false false reply.Ran n (some_test _ (omega arith)) (ne_eqb a.depth 1 (λ e. absurd (omega arith))) (refl, unnests.goes_on)
      | inr leaves ↦
          let outer = leaves.outer in
          only_release at false true reply.Ran n (some_test _ (omega arith)) (eq-eqb a.depth 1 outer) (refl, leaves.leaves)
    ]
only_line image s t a here instr.Release (reply.Fault fault.NoSection) n h =
    let at = at_of image s t a in
    let none = h.0 in
    only_release at true false (reply.Fault fault.NoSection) n (zero_test _ none) (ne_eqb a.depth 1 (λ e. absurd (omega arith))) (refl, h.1)
only_line image s t a here i r n h = absurd h

-- the same of what stands at the thread's number
only_there : (image : Image) (s : State) (t : ℕ) (thread : Thread) → slice_get s.threads t ≡ Some thread → (r : Reply) (n : State) → StepOf image s t (Some thread) r n →
    (r ≡ (step_at image s t (Some thread)).reply) × (n ≡ (step_at image s t (Some thread)).state)
only_there image s t (Running a) e r n h =
    let l = only_line image s t a e h.0 r n h.2 in
    subst (λ o. IsLeft (at_of image s t a) (left_at image (here_place s t a) o) r n) (sym h.1) l
only_there image s t (Done v) e r n h = (h.0, h.1 ∙ sym (after_same s t (Done v) e))
only_there image s t (Failed f) e r n h = (h.0, h.1 ∙ sym (after_same s t (Failed f) e))

-- a step that the table allows, in any state, is the computed one
pub step_only : (image : Image) (s : State) (t : ℕ) → (r : Reply) (n : State) → Step image s t r n → (r ≡ (step_of image s t).reply) × (n ≡ (step_of image s t).state)
step_only image s t r n h =
    elim (slice_get s.threads t) as (λ o. slice_get s.threads t ≡ o → StepOf image s t o r n → (r ≡ (step_at image s t o).reply) × (n ≡ (step_at image s t o).state)) [
      | None ↦ λ e k. absurd k
      | Some thread ↦ λ e k. only_there image s t thread e r n k
    ] refl h

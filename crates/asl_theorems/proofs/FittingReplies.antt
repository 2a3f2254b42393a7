-- Each line of the instruction table leads from a state whose numbers fit to one whose numbers fit, and its reply can be written.
use Rattle.std.proofs.Common.{◌≡◌, ◌<◌, ◌≤◌, ◌+◌, ◌-◌, ◌^◌, ℕ, List, [], ◌∷◌, ◌++◌, Option, None, Some, length, drop, slice_get, option_and_then, refl, sym, subst, inl, inr, arith}
use Rattle.std.specs.Prelude.{pos, IsSome}
use Rattle.std.specs.Int.{w32, int_wrapping_add, int_wrapping_sub}
use Rattle.std.proofs.lemmas.Option.{slice_get_within}
use Rattle.asl_code.specs.declared.image.Image.{Image}
use Rattle.asl_code.specs.declared.instr.Instr.{Instr}
use Rattle.asl_code.specs.declared.instr.Instr.TheVariants as instr
use Rattle.asl_code.specs.declared.value.Cell.{Cell}
use Rattle.asl_code.specs.declared.value.Effect.{Effect}
use Rattle.asl_code.specs.declared.value.Value.{Value}
use Rattle.asl_code.specs.declared.value.Value.TheVariants.{Int, Null, Addr}
use Rattle.asl_code.specs.Spelling.{IsInstr}
use Rattle.asl_machine.specs.declared.fault.Fault.TheVariants as fault
use Rattle.asl_machine.specs.declared.reply.Reply.{Reply}
use Rattle.asl_machine.specs.declared.reply.Reply.TheVariants as reply
use Rattle.asl_machine.specs.State.{Object, Frame, Activity, Running, Done, State, new_object, written}
use Rattle.asl_machine.specs.Calls.{function_of, values_from, with_register}
use Rattle.asl_machine.specs.Access.{Points, AllPoint}
use Rattle.asl_machine.specs.Step.{At, FailsNull, FailsType, FailsUnprotected, Line, called, returned, left_last}
use Rattle.asl_journal.specs.Bytes.{IsReply}
use Rattle.asl_theorems.proofs.FittingStates.{IntFits, AllFit, FramesFit, ActivityFits, ObjectFits, ObjectsFit, StateFits, small_fits, sum_fits, difference_fits, set_fits, take_fits, drop_fits, first_fits, thread_set, set_state, on_state, to_state, fail_state, cell_fits, written_fits, made_fits}

abbrev pub Fine : Reply → State → Type 0
Fine r new = IsReply r × StateFits new

-- the cell of an address that a register has is there, and its numbers fit their fields
address_fits : (objects : List Object) (cell : Cell) → ObjectsFit objects → length objects ≤ 65536 → Points objects (Addr cell.object cell.offset) → (cell.object < 2 ^ 16) × (cell.offset < 256)
address_fits objects cell all few there = by_object (slice_get objects cell.object) refl there
  where
    by_value : (object : Object) → ObjectFits object → (o : Option Value) → slice_get object.cells cell.offset ≡ o → IsSome o → cell.offset < 256
    by_value object fits None e g = absurd (cc)
    by_value object fits (Some value) e g = let within = slice_get_within object.cells cell.offset value e in let less = fits.few in omega (arith, within, less)

    by_object : (o : Option Object) → slice_get objects cell.object ≡ o → IsSome (option_and_then (λ (object : Object). slice_get object.cells cell.offset) o) → (cell.object < 2 ^ 16) × (cell.offset < 256)
    by_object None e g = absurd (cc)
    by_object (Some object) e g =
        let within = slice_get_within objects cell.object object e in
        let low : cell.object < 65536 = omega (arith, within, few) in
        (low, by_value object (all cell.object object e) (slice_get object.cells cell.offset) refl g)

value_fits : (objects : List Object) (value : Value) → ObjectsFit objects → length objects ≤ 65536 → Points objects value → IntFits value → IsReply (reply.Out value)
value_fits objects (Int n) all few there fits = fits
value_fits objects Null all few there fits = tt
value_fits objects (Addr object offset) all few there fits = address_fits objects (record { object = object; offset = offset }) all few there

-- the frames below, where one is waiting
below_fits : (fs : List Frame) (f : Frame) (rest : List Frame) → fs ≡ f ∷ rest → FramesFit fs → AllFit f.regs × FramesFit rest
below_fits fs f rest e all = subst FramesFit e all

-- a call passes on numbers that fit
called_fits : (image : Image) (a : Activity) (to first function : ℕ) → ActivityFits a → ActivityFits (called image a to first function)
called_fits image a to first function v = record {
  top = first_fits (values_from a.top.regs first (function_of image function).params) (function_of image function).regs
      (take_fits (function_of image function).params (drop first a.top.regs) (drop_fits first a.top.regs v.top));
  below = (v.top, v.below);
}

module _ (at : At) (v : StateFits at.state) (a : ActivityFits at.activity) (few : length at.state.objects ≤ 65536) (points : AllPoint at.state.objects at.activity.top.regs) where
  null_fine : (address : ℕ) (new : State) → FailsNull at address new → Fine (reply.Fault fault.Null) new
  null_fine address new h = (tt, fail_state at v a fault.Null new h.1)

  type_fine : (address : ℕ) (new : State) → FailsType at address new → Fine (reply.Fault fault.BadType) new
  type_fine address new h = (tt, fail_state at v a fault.BadType new h.2)

  unprotected_fine : (address : ℕ) (cell : Cell) (expected effect : Effect) (new : State) → FailsUnprotected at address cell expected effect new → Fine (reply.Fault (fault.Unprotected cell effect)) new
  unprotected_fine address cell expected effect new h =
      (address_fits at.state.objects cell v.objects few (points address (Addr cell.object cell.offset) h.reads_address), fail_state at v a (fault.Unprotected cell effect) new h.fails)

  one_fits : IntFits (Int (pos 1))
  one_fits = small_fits 1 (omega arith)

  zero_fits : IntFits (Int (pos 0))
  zero_fits = small_fits 0 (omega arith)

  -- the lines, one by one
  pub line_fits : (i : Instr) (r : Reply) (new : State) → IsInstr i → Line at i r new → Fine r new
  line_fits (instr.SetInt to number) reply.Ran new is h = (tt, set_state at v a to (Int number) new is.1.0 h)
  line_fits (instr.SetNull to) reply.Ran new is h = (tt, set_state at v a to Null new tt h)
  line_fits (instr.Move to from) reply.Ran new is h = (tt, set_state at v a to h.0 new (a.top from h.0 h.1) h.2)
  line_fits (instr.Add to left right) reply.Ran new is h =
      (tt, set_state at v a to (Int (int_wrapping_add w32 h.0 h.1)) new (sum_fits h.0 h.1 (a.top left (Int h.0) h.2) (a.top right (Int h.1) h.3)) h.4)
  line_fits (instr.Add to left right) (reply.Fault fault.BadType) new is h = (tt, fail_state at v a fault.BadType new h.4.1)
  line_fits (instr.Subtract to left right) reply.Ran new is h =
      (tt, set_state at v a to (Int (int_wrapping_sub w32 h.0 h.1)) new (difference_fits h.0 h.1 (a.top left (Int h.0) h.2) (a.top right (Int h.1) h.3)) h.4)
  line_fits (instr.Subtract to left right) (reply.Fault fault.BadType) new is h = (tt, fail_state at v a fault.BadType new h.4.1)
  line_fits (instr.LessThan to left right) reply.Ran new is h =
      elim h.4 [
        | inl branch ↦ (tt, set_state at v a to (Int (pos 1)) new one_fits branch.1)
        | inr branch ↦ (tt, set_state at v a to (Int (pos 0)) new zero_fits branch.1)
      ]
  line_fits (instr.LessThan to left right) (reply.Fault fault.BadType) new is h = (tt, fail_state at v a fault.BadType new h.4.1)
  line_fits (instr.Equals to left right) reply.Ran new is h =
      elim h.4 [
        | inl branch ↦ (tt, set_state at v a to (Int (pos 1)) new one_fits branch.1)
        | inr branch ↦ (tt, set_state at v a to (Int (pos 0)) new zero_fits branch.1)
      ]
  line_fits (instr.GlobalAddress to global) reply.Ran new is h = (tt, set_state at v a to (Addr global 0) new tt h)
  line_fits (instr.FieldAddress to from places) reply.Ran new is h = (tt, set_state at v a to (Addr h.cell.object (h.cell.offset + places)) new tt h.sets)
  line_fits (instr.FieldAddress to from places) (reply.Fault fault.Null) new is h = null_fine from new h
  line_fits (instr.FieldAddress to from places) (reply.Fault fault.BadType) new is h = type_fine from new h
  line_fits (instr.FieldAddress to from places) (reply.Fault fault.Bounds) new is h = (tt, fail_state at v a fault.Bounds new h.fails)
  line_fits (instr.Load to address) reply.Ran new is h = (tt, set_state at v a to h.value new (cell_fits at v a h.cell h.value h.there) h.sets)
  line_fits (instr.Load to address) (reply.Fault fault.Null) new is h = null_fine address new h
  line_fits (instr.Load to address) (reply.Fault fault.BadType) new is h = type_fine address new h
  line_fits (instr.Load to address) (reply.Fault (fault.Unprotected cell effect)) new is h = unprotected_fine address cell _ effect new h
  line_fits (instr.Store address from) reply.Ran new is h =
      (tt, on_state at v a at.activity.depth (written at.state.objects h.cell h.value) at.state.holding new (written_fits at.state.objects h.cell h.value v.objects (a.top from h.value h.reads_value)) h.goes_on)
  line_fits (instr.Store address from) (reply.Fault fault.Null) new is h = null_fine address new h
  line_fits (instr.Store address from) (reply.Fault fault.BadType) new is h = type_fine address new h
  line_fits (instr.Store address from) (reply.Fault (fault.Unprotected cell effect)) new is h = unprotected_fine address cell _ effect new h
  line_fits (instr.New to cells class) reply.Ran new is h = (
    tt,
    subst StateFits (sym h.makes) (thread_set at.state at.thread _ (at.state.objects ++ new_object class cells ∷ []) at.state.holding v (made_fits at.state.objects cells class is.1.0 v.objects)
        (record { top = set_fits at.activity.top.regs to (Addr (length at.state.objects) 0) a.top tt; below = a.below })),
  )
  line_fits (instr.New to cells class) (reply.Fault fault.Full) new is h = (tt, fail_state at v a fault.Full new h.1)
  line_fits (instr.Jump target) reply.Ran new is h = (tt, to_state at v a target new h)
  line_fits (instr.JumpIfZero test target) reply.Ran new is h =
      elim h.2 [
        | inl branch ↦ (tt, to_state at v a target new branch.1)
        | inr branch ↦ (tt, on_state at v a at.activity.depth at.state.objects at.state.holding new v.objects branch.1)
      ]
  line_fits (instr.Call to first function) reply.Ran new is h = (
    tt,
    subst StateFits (sym h.calls) (thread_set at.state at.thread (Running (called at.image at.activity to first function)) at.state.objects at.state.holding v v.objects (called_fits at.image at.activity to first function a)),
  )
  line_fits (instr.Call to first function) (reply.Fault fault.Stack) new is h = (tt, fail_state at v a fault.Stack new h.1)
  line_fits (instr.Return from) reply.Ran new is (inl h) =
      let below = below_fits at.activity.below h.caller h.others h.waiting a.below in (
        tt,
        subst StateFits (sym h.returns) (thread_set at.state at.thread (Running (returned at.activity (with_register h.to h.value h.caller) h.others)) at.state.objects at.state.holding v v.objects
            (record { top = set_fits h.caller.regs h.to h.value below.0 (a.top from h.value h.reads_value); below = below.1 })),
      )
  line_fits (instr.Return from) reply.Ran new is (inr h) = (tt, subst StateFits (sym h.ends) (thread_set at.state at.thread (Done h.value) at.state.objects at.state.holding v v.objects tt))
  line_fits (instr.Return from) (reply.Fault fault.Open) new is h = (tt, fail_state at v a fault.Open new h.2)
  line_fits (instr.Output from) (reply.Out value) new is h = (
    value_fits at.state.objects value v.objects few (points from value h.0) (a.top from value h.0),
    on_state at v a at.activity.depth at.state.objects at.state.holding new v.objects h.1,
  )
  line_fits (instr.Acquire list) reply.Ran new is (inl h) = (tt, on_state at v a (at.activity.depth + 1) at.state.objects at.state.holding new v.objects h.goes_on)
  line_fits (instr.Acquire list) reply.Ran new is (inr h) = (tt, on_state at v a 1 at.state.objects _ new v.objects h.goes_on)
  line_fits (instr.Acquire list) reply.Blocked new is h = (tt, subst StateFits (sym h.same) v)
  line_fits (instr.Acquire list) (reply.Fault fault.Deep) new is h = (tt, fail_state at v a fault.Deep new h.1)
  line_fits instr.Release reply.Ran new is (inl h) = (tt, on_state at v a (at.activity.depth - 1) at.state.objects at.state.holding new v.objects h.goes_on)
  line_fits instr.Release reply.Ran new is (inr h) =
      (tt, subst StateFits (sym h.leaves) (thread_set at.state at.thread (Running (left_last at.activity)) at.state.objects _ v v.objects (record { top = a.top; below = a.below })))
  line_fits instr.Release (reply.Fault fault.NoSection) new is h = (tt, fail_state at v a fault.NoSection new h.1)
  line_fits i r new is h = absurd h

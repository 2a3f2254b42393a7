-- Replies are the same or not, and events are those of a run or some event is the first that differs.
use Rattle.std.proofs.Common.{◌≡◌, ◌≢◌, ℕ, suc, ◌⊎◌, inl, inr, List, [], ◌∷◌, take, refl, ap, ap₂, ◌∙◌, sym}
use Rattle.std.proofs.lemmas.Bool.{cases_Bool, cases_eq, both_ways}
use Rattle.asl_code.specs.declared.image.Image.{Image}
use Rattle.asl_code.specs.declared.value.Cell.{Cell}
use Rattle.asl_code.specs.declared.value.Effect.{Effect}
use Rattle.asl_code.specs.declared.value.Effect.TheVariants.{Read, Write}
use Rattle.asl_code.specs.declared.value.Value.{Value}
use Rattle.asl_machine.specs.declared.fault.Fault.{Fault}
use Rattle.asl_machine.specs.declared.fault.Fault.TheVariants as fault
use Rattle.asl_machine.specs.declared.reply.Reply.{Reply}
use Rattle.asl_machine.specs.declared.reply.Reply.TheVariants as reply
use Rattle.asl_machine.specs.State.{State}
use Rattle.asl_machine.specs.StepFunction.{same_value}
use Rattle.asl_machine.specs.StepFunction.{step_of}
use Rattle.asl_machine.proofs.PackedValues.{same_is, same_self}
use Rattle.asl_journal.specs.declared.event.Event.{Event}
use Rattle.asl_journal.specs.Computed.{GoesBy}
use Rattle.asl_journal.proofs.Differences.{DiffersBy}
use Rattle.asl_journal.proofs.Runs.{goes_cons}

-- they are the same, or they are not
abbrev Same : {X : Type 0} → X → X → Type 0
Same x y = (x ≡ y) ⊎ (x ≢ y)

-- what is made of one thing is the same where that is, and only there
same_by : {X Y : Type 0} (f : X → Y) (x y : X) → (f x ≡ f y → x ≡ y) → Same x y → Same (f x) (f y)
same_by f x y back (inl e) = inl (ap f e)
same_by f x y back (inr ne) = inr (λ e. ne (back e))

same_values : (x y : Value) → Same x y
same_values x y =
    elim (cases_Bool (same_value x y)) [
      | inl matched ↦ inl (same_is x y matched)
      | inr unmatched ↦ inr (λ e. both_ways _ unmatched (ap (same_value x) (sym e) ∙ same_self x))
    ]

same_cells : (x y : Cell) → Same x y
same_cells x y =
    elim (cases_eq x.object y.object) [
      | inl object ↦ elim (cases_eq x.offset y.offset) [
        | inl offset ↦ inl (ap₂ (λ (o i : ℕ). record { object = o; offset = i }) object offset)
        | inr other ↦ inr (λ e. other (ap (λ (c : Cell). c.offset) e))
      ]
      | inr other ↦ inr (λ e. other (ap (λ (c : Cell). c.object) e))
    ]

same_effects : (x y : Effect) → Same x y
same_effects Read Read = inl refl
same_effects Read Write = inr (λ e. cc)
same_effects Write Read = inr (λ e. cc)
same_effects Write Write = inl refl

same_accesses : (c d : Cell) (e f : Effect) → Same (fault.Unprotected c e) (fault.Unprotected d f)
same_accesses c d e f =
    elim (same_cells c d) [
      | inl cell ↦ elim (same_effects e f) [
        | inl effect ↦ inl (ap₂ (λ (x : Cell) (y : Effect). fault.Unprotected x y) cell effect)
        | inr other ↦ inr (λ p. other cc)
      ]
      | inr other ↦ inr (λ p. other cc)
    ]

same_faults : (x y : Fault) → Same x y
same_faults fault.BadType fault.BadType = inl refl
same_faults fault.Null fault.Null = inl refl
same_faults fault.Bounds fault.Bounds = inl refl
same_faults (fault.Unprotected c e) (fault.Unprotected d f) = same_accesses c d e f
same_faults fault.Full fault.Full = inl refl
same_faults fault.Stack fault.Stack = inl refl
same_faults fault.Open fault.Open = inl refl
same_faults fault.Deep fault.Deep = inl refl
same_faults fault.NoSection fault.NoSection = inl refl
same_faults x y = inr (λ e. cc)

same_replies : (x y : Reply) → Same x y
same_replies reply.Ran reply.Ran = inl refl
same_replies (reply.Out v) (reply.Out w) = same_by reply.Out v w (λ e. cc) (same_values v w)
same_replies reply.Blocked reply.Blocked = inl refl
same_replies reply.Ended reply.Ended = inl refl
same_replies (reply.Fault f) (reply.Fault g) = same_by reply.Fault f g (λ e. cc) (same_faults f g)
same_replies x y = inr (λ e. cc)

-- the events go by the run, or some event is the first that differs
pub some_difference : (image : Image) (s : State) (events : List Event) → GoesBy image s events ⊎ ((index : ℕ) × DiffersBy image s events index)
some_difference image s [] = inl refl
some_difference image s (e ∷ es) =
    elim (same_replies e.reply (step_of image s e.thread).reply) [
      | inl same ↦ elim (some_difference image (step_of image s e.thread).state es) [
        | inl goes ↦ inl (goes_cons image s e es same goes)
        | inr d ↦ inr (suc d.0, record { event = d.1.event; at = d.1.at; before = goes_cons image s e (take d.0 es) same d.1.before; differs = d.1.differs })
      ]
      | inr other ↦ inr (0, record { event = e; at = refl; before = refl; differs = other })
    ]

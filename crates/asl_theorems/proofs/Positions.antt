-- The positions of a journal.
use Rattle.std.proofs.Common.{◌≡◌, ℕ, zero, suc, List, [], ◌∷◌, Some, slice_get, take, subst}
use Rattle.asl_code.specs.declared.image.Image.{Image}
use Rattle.asl_machine.specs.State.{State}
use Rattle.asl_machine.specs.ComputedRun.{state_after}
use Rattle.asl_machine.specs.StepFunction.{step_of}
use Rattle.asl_journal.specs.declared.event.Event.{Event}
use Rattle.asl_journal.specs.Journal.{schedule_of}
use Rattle.asl_journal.specs.Computed.{GoesBy}
use Rattle.asl_journal.proofs.Runs.{goes_head, goes_tail}

-- the event at a position has the reply of the step there
pub reply_at : (image : Image) (events : List Event) (s : State) (k : ℕ) (event : Event) → GoesBy image s events → slice_get events k ≡ Some event →
    event.reply ≡ (step_of image (state_after image s (schedule_of (take k events))) event.thread).reply
reply_at image [] s k event goes at = absurd cc
reply_at image (e ∷ es) s zero event goes at = subst (λ (x : Event). x.reply ≡ (step_of image s x.thread).reply) (cc) (goes_head image s e es goes)
reply_at image (e ∷ es) s (suc k) event goes at = reply_at image es (step_of image s e.thread).state k event (goes_tail image s e es goes) at

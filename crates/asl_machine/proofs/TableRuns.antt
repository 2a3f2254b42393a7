-- The computed run of a schedule is the only one by the table, and what is reached is the computed state of a schedule.
use Rattle.std.proofs.Common.{◌≡◌, ℕ, ◌<◌, List, [], ◌∷◌, All, length, refl, ap₂, sym, ◌∙◌, subst}
use Rattle.std.proofs.lemmas.List.Elements.{All-head, All-tail}
use Rattle.asl_code.specs.declared.image.Image.{Image}
use Rattle.asl_code.specs.Fits.{FitsImage}
use Rattle.asl_machine.specs.declared.reply.Reply.{Reply}
use Rattle.asl_machine.specs.State.{State}
use Rattle.asl_machine.specs.Run.{start_of, RunsBy, IsReached}
use Rattle.asl_machine.specs.ComputedRun.{replies_of, state_after}
use Rattle.asl_machine.specs.StepFunction.{step_of}
use Rattle.asl_machine.specs.WellFormed.{SatisfiesInvariant}
use Rattle.asl_machine.proofs.Invariant.{step_sound}
use Rattle.asl_machine.proofs.Starts.{start_sound, length-first_threads}
use Rattle.asl_machine.proofs.Table.{step_is}
use Rattle.asl_machine.proofs.Unique.{step_only}
use Rattle.asl_machine.proofs.Reached.{step_count}

-- the computed run goes by the table
pub run_is : (image : Image) (count : ℕ) (schedule : List ℕ) (s : State) → SatisfiesInvariant image s → length s.threads ≡ count → All (λ t. t < count) schedule →
    RunsBy image s schedule (replies_of image s schedule) (state_after image s schedule)
run_is image count [] s sound threads there = refl
run_is image count (t ∷ ts) s sound threads there = (
  (step_of image s t).state,
  step_is image s t sound (subst (λ n. t < n) (sym threads) (All-head (λ u. u < count) t ts there)),
  run_is image count ts (step_of image s t).state (step_sound image s t sound) (step_count image s t ∙ threads) (All-tail (λ u. u < count) t ts there),
)

-- a run by the table, from any state on, is the computed one
pub run_only : (image : Image) (schedule : List ℕ) (s : State) (replies : List Reply) (end : State) → RunsBy image s schedule replies end →
    (replies ≡ replies_of image s schedule) × (end ≡ state_after image s schedule)
run_only image [] s [] end e = (refl, e)
run_only image [] s (r ∷ rs) end e = absurd e
run_only image (t ∷ ts) s [] end e = absurd e
run_only image (t ∷ ts) s (r ∷ rs) end e =
    let step = step_only image s t r e.0 e.1 in
    let rest = run_only image ts (step_of image s t).state rs end (subst (λ u. RunsBy image u ts rs end) step.1 e.2) in
    (ap₂ {C = List Reply} (λ x xs. x ∷ xs) step.0 rest.0, rest.1)

-- so two runs of a schedule from one state are the same
pub one_run : (image : Image) (s end other : State) (schedule : List ℕ) (replies others : List Reply) → RunsBy image s schedule replies end → RunsBy image s schedule others other →
    (replies ≡ others) × (end ≡ other)
one_run image s end other schedule replies others one two =
    let a = run_only image schedule s replies end one in
    let b = run_only image schedule s others other two in
    (a.0 ∙ sym b.0, a.1 ∙ sym b.1)

-- a reached state is the computed one of its schedule
pub reached_state : (image : Image) (count : ℕ) (s : State) (r : IsReached image count s) → s ≡ state_after image (start_of image count) r.schedule
reached_state image count s r = (run_only image r.schedule (start_of image count) r.replies s r.leads).1

-- and the computed state of a schedule of threads that are there is reached
pub state_reached : (image : Image) (count : ℕ) (schedule : List ℕ) → FitsImage image → All (λ t. t < count) schedule → IsReached image count (state_after image (start_of image count) schedule)
state_reached image count schedule fits there = record {
  schedule = schedule;
  replies = replies_of image (start_of image count) schedule;
  threads_there = there;
  leads = run_is image count schedule (start_of image count) (start_sound image count fits) (length-first_threads image count) there;
}

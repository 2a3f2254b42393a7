-- Runs over a schedule in two parts, and what is reached.
use Rattle.std.proofs.Common.{◌≡◌, ℕ, ◌<◌, List, [], ◌∷◌, ◌++◌, All, length, refl, ap, subst, ◌∙◌}
use Rattle.std.proofs.lemmas.List.Elements.{All-append, All-cons, All-nil}
use Rattle.asl_code.specs.declared.image.Image.{Image}
use Rattle.asl_machine.specs.declared.reply.Reply.{Reply}
use Rattle.asl_machine.specs.State.{State}
use Rattle.asl_machine.specs.Run.{start_of, RunsBy, IsReached}
use Rattle.asl_machine.specs.ComputedRun.{state_after}
use Rattle.asl_machine.specs.Step.{Step}
use Rattle.asl_machine.specs.StepFunction.{step_of}
use Rattle.asl_machine.proofs.Lines.{line_there}
use Rattle.asl_machine.proofs.Reached.{step_count, line_count, reached_count}

-- a run, and one that goes on where it ends, are a run
pub runs_append : (image : Image) (s middle end : State) (first rest : List ℕ) (replies others : List Reply) → RunsBy image s first replies middle → RunsBy image middle rest others end →
    RunsBy image s (first ++ rest) (replies ++ others) end
runs_append image s middle end [] rest [] others here there = subst (λ u. RunsBy image u rest others end) here there
runs_append image s middle end [] rest (r ∷ rs) others here there = absurd here
runs_append image s middle end (t ∷ ts) rest [] others here there = absurd here
runs_append image s middle end (t ∷ ts) rest (r ∷ rs) others here there = (here.0, here.1, runs_append image here.0 middle end ts rest rs others here.2 there)

-- the first part of a run leads somewhere, and the second goes on from there
pub runs_parts : (image : Image) (s end : State) (first rest : List ℕ) (replies : List Reply) → RunsBy image s (first ++ rest) replies end →
    (middle : State) × (early : List Reply) × (late : List Reply) × (replies ≡ early ++ late) × RunsBy image s first early middle × RunsBy image middle rest late end
runs_parts image s end [] rest replies runs = (s, [], replies, refl, refl, runs)
runs_parts image s end (t ∷ ts) rest [] runs = absurd runs
runs_parts image s end (t ∷ ts) rest (r ∷ rs) runs =
    let back = runs_parts image runs.0 end ts rest rs runs.2 in
    (back.0, r ∷ back.1, back.2, ap (λ (xs : List Reply). r ∷ xs) back.3, (runs.0, runs.1, back.4), back.5)

-- the computed state after a schedule in two parts
pub state_after-append : (image : Image) (s : State) (first rest : List ℕ) → state_after image s (first ++ rest) ≡ state_after image (state_after image s first) rest
state_after-append image s [] rest = refl
state_after-append image s (t ∷ ts) rest = state_after-append image (step_of image s t).state ts rest

-- it has as many threads
pub count_after : (image : Image) (schedule : List ℕ) (s : State) → length (state_after image s schedule).threads ≡ length s.threads
count_after image [] s = refl
count_after image (t ∷ ts) s = count_after image ts (step_of image s t).state ∙ step_count image s t

-- a run is of threads that are there
run_there : (image : Image) (count : ℕ) (schedule : List ℕ) (s : State) (replies : List Reply) (end : State) → length s.threads ≡ count → RunsBy image s schedule replies end → All (λ t. t < count) schedule
run_there image count [] s replies end n e = All-nil (λ t. t < count)
run_there image count (t ∷ ts) s [] end n e = absurd e
run_there image count (t ∷ ts) s (r ∷ rs) end n e =
    All-cons (λ u. u < count) t ts (subst (λ k. t < k) n (line_there image s t r e.0 e.1)) (run_there image count ts e.0 rs end (line_count image s t r e.0 e.1 ∙ n) e.2)

-- the start is reached
pub start_reached : (image : Image) (count : ℕ) → IsReached image count (start_of image count)
start_reached image count = record { schedule = []; replies = []; threads_there = All-nil (λ t. t < count); leads = refl }

-- what a run leaves of a reached state is reached
pub run_reached : (image : Image) (count : ℕ) (s end : State) (schedule : List ℕ) (replies : List Reply) → IsReached image count s → RunsBy image s schedule replies end → IsReached image count end
run_reached image count s end schedule replies r runs = record {
  schedule = r.schedule ++ schedule;
  replies = r.replies ++ replies;
  threads_there = All-append (λ t. t < count) r.schedule schedule r.threads_there (run_there image count schedule s replies end (reached_count image count s r) runs);
  leads = runs_append image (start_of image count) s end r.schedule schedule r.replies replies r.leads runs;
}

-- what a line of the table leaves of a reached state is reached
pub line_reached : (image : Image) (count : ℕ) (s new : State) (t : ℕ) (reply : Reply) → IsReached image count s → Step image s t reply new → IsReached image count new
line_reached image count s new t reply r h = run_reached image count s new (t ∷ []) (reply ∷ []) r (new, h, refl)

-- Steps of threads that are not there change nothing: what any schedule leads to, one of threads that are there does.
use Rattle.std.proofs.Common.{◌≡◌, ℕ, ◌<◌, ◌≤◌, List, [], ◌∷◌, length, refl, ap, sym, ◌∙◌, subst, inl, inr, All, arith}
use Rattle.std.proofs.lemmas.Bool.{cases_lt}
use Rattle.std.proofs.lemmas.Option.{slice_get_past}
use Rattle.std.proofs.lemmas.List.Elements.{All-nil, All-cons}
use Rattle.asl_code.specs.declared.image.Image.{Image}
use Rattle.asl_code.specs.Fits.{FitsImage}
use Rattle.asl_machine.specs.State.{State}
use Rattle.asl_machine.specs.Run.{IsReached, start_of}
use Rattle.asl_machine.specs.ComputedRun.{state_after}
use Rattle.asl_machine.specs.StepFunction.{step_of, step_at}
use Rattle.asl_machine.specs.Fresh.{AreApart}
use Rattle.asl_machine.proofs.Reached.{step_count}
use Rattle.asl_machine.proofs.TableRuns.{state_reached}
use Rattle.asl_machine.proofs.ReachedApart.{reached_apart}
use Rattle.asl_machine.proofs.Starts.{length-first_threads}
use Rattle.asl_atomicity.proofs.Swapping.{Stands}

-- a schedule of threads below the count that leads from one state to the other
record Leads (image : Image) (count : ℕ) (s to : State) : Type 0 where
  pub schedule : List ℕ
  pub there : All (λ t. t < count) schedule
  pub leads : to ≡ state_after image s schedule

no_step : (image : Image) (s : State) (t : ℕ) → length s.threads ≤ t → (step_of image s t).state ≡ s
no_step image s t past = ap (λ o. (step_at image s t o).state) (slice_get_past s.threads t past)

leads_on : (image : Image) (count : ℕ) (s : State) (schedule : List ℕ) → length s.threads ≡ count → Leads image count s (state_after image s schedule)
leads_on image count s [] n = record { schedule = []; there = All-nil (λ t. t < count); leads = refl }
leads_on image count s (t ∷ ts) n =
    let rest = leads_on image count (step_of image s t).state ts (step_count image s t ∙ n) in
    elim (cases_lt t count) [
      | inl lt ↦ record { schedule = t ∷ rest.schedule; there = All-cons (λ t. t < count) t rest.schedule lt rest.there; leads = rest.leads }
      | inr past ↦ record { schedule = rest.schedule; there = rest.there; leads = rest.leads ∙ ap (λ z. state_after image z rest.schedule) (no_step image s t (omega (arith, past, n))) }
    ]

pub is_reached : (image : Image) (count : ℕ) (s : State) (schedule : List ℕ) → FitsImage image → s ≡ state_after image (start_of image count) schedule → IsReached image count s
is_reached image count s schedule fits e =
    let l = leads_on image count (start_of image count) schedule (length-first_threads image count) in
    subst (IsReached image count) (sym (e ∙ l.leads)) (state_reached image count l.schedule fits l.there)

-- fresh objects are apart in the states of runs
pub run_apart : (image : Image) (count : ℕ) (s : State) → Stands image count s → AreApart image s
run_apart image count s stands = reached_apart image count s stands.0.fits (is_reached image count s stands.1.0 stands.0.fits stands.1.1)

-- Along a run: what holds at each of its places.
use Rattle.std.proofs.Common.{◌≡◌, ℕ, zero, suc, ◌+◌, ◌-◌, ◌<◌, ◌++◌, List, [], ◌∷◌, Some, slice_get, refl, ap, sym, ◌∙◌, subst, arith}
use Rattle.std.specs.Prelude.{IsSomeAnd}
use Rattle.std.proofs.lemmas.Option.{same_Some}
use Rattle.asl_code.specs.declared.image.Image.{Image}
use Rattle.asl_code.specs.Fits.{FitsImage}
use Rattle.asl_machine.specs.declared.reply.Reply.{Reply}
use Rattle.asl_machine.specs.State.{State}
use Rattle.asl_machine.specs.Fresh.{AreApart}
use Rattle.asl_machine.specs.Run.{start_of}
use Rattle.asl_machine.specs.WellFormed.{SatisfiesInvariant}
use Rattle.asl_machine.specs.Step.{Step}
use Rattle.asl_machine.proofs.Apart.{step_apart}
use Rattle.asl_machine.proofs.Lines.{line_sound}
use Rattle.asl_machine.proofs.ReachedApart.{start_apart}
use Rattle.asl_machine.proofs.Starts.{start_sound}
use Rattle.asl_atomicity.specs.Serial.{TakenStep, IsRun}
use Rattle.asl_races.specs.Races.{IsStepOf}
use Rattle.asl_races.proofs.Turns.{taken}

plus_zero : (n : ℕ) → n ≡ n + 0
plus_zero n = omega arith

zero_plus : (n : ℕ) → 0 + n ≡ n
zero_plus n = omega arith

plus_suc : (n j : ℕ) → suc n + j ≡ n + suc j
plus_suc n j = omega arith

-- a place after another is some places on
pub places_on : (i j : ℕ) → i < j → (k : ℕ) × (suc i + k ≡ j)
places_on i j lt = (j - suc i, omega (arith, lt))

-- a step at a place is one of its thread
pub step_there : (run : List TakenStep) (place : ℕ) (step : TakenStep) → slice_get run place ≡ Some step → IsStepOf step.thread (λ z. Unit {0}) run place
step_there run place step e = subst (λ o. IsSomeAnd o (λ (z : TakenStep). (z.thread ≡ step.thread) × Unit {0})) (sym e) (refl, tt)

-- a run and a step more
pub run_more : (image : Image) (steps : List TakenStep) (s end : State) (t : ℕ) (r : Reply) (new : State) → IsRun image s steps end → Step image end t r new → IsRun image s (steps ++ taken end t r ∷ []) new
run_more image [] s end t r new is step = (is, new, subst (λ z. Step image z t r new) is step, refl)
run_more image (first ∷ steps) s end t r new is step = (is.0, is.1, is.2, run_more image steps is.1 end t r new is.3 step)

-- a state that a run leads to
abbrev pub IsLed : Image → ℕ → State → Type 0
IsLed image count s = (steps : List TakenStep) × IsRun image (start_of image count) steps s

-- what a run leads to is sound
pub led_sound : (image : Image) (steps : List TakenStep) (s end : State) → SatisfiesInvariant image s → IsRun image s steps end → SatisfiesInvariant image end
led_sound image [] s end sound run = subst (SatisfiesInvariant image) (sym run) sound
led_sound image (step ∷ steps) s end sound run = led_sound image steps run.1 end (line_sound image s step.thread step.reply run.1 sound run.2) run.3

-- what holds of a state is kept by a step at a place
abbrev pub IsKept : Image → List TakenStep → (ℕ → State → Type 0) → Type 0
IsKept image all Holds =
    (n : ℕ) (s : State) (t : ℕ) (r : Reply) (new : State) → slice_get all n ≡ Some (taken s t r) → SatisfiesInvariant image s → AreApart image s → Step image s t r new → Holds n s → Holds (suc n) new

-- the step at a place of a run, and the run from there on
pub record Place (image : Image) (all : List TakenStep) (Holds : ℕ → State → Type 0) (n : ℕ) (one : TakenStep) : Type 0 where
  pub new : State
  pub at : slice_get all n ≡ Some one
  pub sound : SatisfiesInvariant image one.before
  pub apart : AreApart image one.before
  pub step : Step image one.before one.thread one.reply new
  pub holds : Holds n one.before
  pub rest : List TakenStep
  pub end : State
  pub run : IsRun image new rest end
  pub view : (k : ℕ) → slice_get rest k ≡ slice_get all (suc n + k)

module _ (image : Image) (all : List TakenStep) (Holds : ℕ → State → Type 0) (kept : IsKept image all Holds) where
  -- at each place of a run holds what is kept, and what always does
  pub walk : (steps : List TakenStep) (n : ℕ) → ((k : ℕ) → slice_get steps k ≡ slice_get all (n + k)) → (s end : State) → IsRun image s steps end → SatisfiesInvariant image s → AreApart image s → Holds n s →
      (j : ℕ) (one : TakenStep) → slice_get steps j ≡ Some one → Place image all Holds (n + j) one
  walk [] n view s end run sound apart holds j one at = absurd cc
  walk (step ∷ steps) n view s end run sound apart holds zero one at =
      subst (λ z. Place image all Holds (n + 0) z) (same_Some _ _ at) (subst (λ m. Place image all Holds m step) (plus_zero n) (record {
        new = run.1;
        at = ap (slice_get all) (plus_zero n) ∙ sym (view zero);
        sound = subst (SatisfiesInvariant image) (sym run.0) sound;
        apart = subst (AreApart image) (sym run.0) apart;
        step = subst (λ z. Step image z step.thread step.reply run.1) (sym run.0) run.2;
        holds = subst (Holds n) (sym run.0) holds;
        rest = steps;
        end = end;
        run = run.3;
        view = λ k. view (suc k) ∙ ap (slice_get all) (sym (plus_suc n k));
      }))
  walk (step ∷ steps) n view s end run sound apart holds (suc j) one at =
      let t = step.thread in
      let here : slice_get all n ≡ Some (taken s t step.reply) = ap (slice_get all) (plus_zero n) ∙ sym (view zero) ∙ ap (λ z. Some (taken z t step.reply)) run.0 in
      subst (λ m. Place image all Holds m one) (plus_suc n j)
      (walk steps (suc n) (λ k. view (suc k) ∙ ap (slice_get all) (sym (plus_suc n k))) run.1 end run.3 (line_sound image s t step.reply run.1 sound run.2) (step_apart image s t step.reply run.1 sound apart run.2)
      (kept n s t step.reply run.1 here sound apart run.2 holds) j one at)

-- what holds at the start of a run, and is kept, holds at each place
pub place_of : (image : Image) (count : ℕ) → FitsImage image → (run : List TakenStep) (end : State) → IsRun image (start_of image count) run end → (Holds : ℕ → State → Type 0) → IsKept image run Holds → Holds 0 (start_of image count) →
    (i : ℕ) (one : TakenStep) → slice_get run i ≡ Some one → Place image run Holds i one
place_of image count fits run end is Holds kept first i one at =
    subst (λ n. Place image run Holds n one) (zero_plus i)
    (walk image run Holds kept run 0 (λ k. ap (slice_get run) (sym (zero_plus k))) (start_of image count) end is (start_sound image count fits) (start_apart image count) first i one at)

-- what holds after a step, and is kept, holds at each later place
pub place_after : (image : Image) (run : List TakenStep) (Before Holds : ℕ → State → Type 0) → IsKept image run Holds → (i j : ℕ) → i < j → (one other : TakenStep) (p : Place image run Before i one) → Holds (suc i) p.new →
    slice_get run j ≡ Some other → Place image run Holds j other
place_after image run Before Holds kept i j lt one other p holds at =
    let k = places_on i j lt in
    subst (λ n. Place image run Holds n other) k.1
    (walk image run Holds kept p.rest (suc i) p.view p.new p.end p.run (line_sound image one.before one.thread one.reply p.new p.sound p.step) (step_apart image one.before one.thread one.reply p.new p.sound p.apart p.step) holds k.0 other
    (p.view k.0 ∙ ap (slice_get run) k.1 ∙ at))

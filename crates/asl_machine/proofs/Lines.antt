-- What holds of the computed step holds of each line of the table; what each line keeps, runs keep.
use Rattle.std.proofs.Common.{◌≡◌, ℕ, ◌<◌, List, [], ◌∷◌, Some, None, length, slice_get, refl, sym, subst}
use Rattle.std.proofs.lemmas.Option.{slice_get_within}
use Rattle.asl_code.specs.declared.image.Image.{Image}
use Rattle.asl_machine.specs.declared.reply.Reply.{Reply}
use Rattle.asl_machine.specs.State.{State}
use Rattle.asl_machine.specs.Run.{start_of, RunsBy, IsReached}
use Rattle.asl_machine.specs.Step.{StepOf, Step}
use Rattle.asl_machine.specs.StepFunction.{step_of}
use Rattle.asl_machine.specs.WellFormed.{SatisfiesInvariant}
use Rattle.asl_machine.proofs.Invariant.{step_sound}
use Rattle.asl_machine.proofs.Unique.{step_only}

-- what holds of the computed step holds of each line of the table
pub of_line : (image : Image) (s : State) (t : ℕ) (P : Reply → State → Type 0) → P (step_of image s t).reply (step_of image s t).state → (reply : Reply) (new : State) → Step image s t reply new → P reply new
of_line image s t P p reply new h =
    let only = step_only image s t reply new h in
    subst (P reply) (sym only.1) (subst (λ (r : Reply). P r (step_of image s t).state) (sym only.0) p)

-- a line is of a thread that is there
pub line_there : (image : Image) (s : State) (t : ℕ) (reply : Reply) (new : State) → Step image s t reply new → t < length s.threads
line_there image s t reply new h =
    elim (slice_get s.threads t) as (λ o. slice_get s.threads t ≡ o → StepOf image s t o reply new → t < length s.threads) [
      | None ↦ λ e k. absurd k
      | Some thread ↦ λ e k. slice_get_within s.threads t thread e
    ] refl h

-- and keeps a state sound
pub line_sound : (image : Image) (s : State) (t : ℕ) (reply : Reply) (new : State) → SatisfiesInvariant image s → Step image s t reply new → SatisfiesInvariant image new
line_sound image s t reply new sound h = of_line image s t (λ r u. SatisfiesInvariant image u) (step_sound image s t sound) reply new h

-- what each line keeps, runs keep
pub runs_keep : (image : Image) (P : State → Type 0) → ((s : State) (t : ℕ) (reply : Reply) (new : State) → P s → Step image s t reply new → P new) →
    (schedule : List ℕ) (s : State) (replies : List Reply) (end : State) → P s → RunsBy image s schedule replies end → P end
runs_keep image P keeps [] s [] end p e = subst P (sym e) p
runs_keep image P keeps [] s (r ∷ rs) end p e = absurd e
runs_keep image P keeps (t ∷ ts) s [] end p e = absurd e
runs_keep image P keeps (t ∷ ts) s (r ∷ rs) end p e = runs_keep image P keeps ts e.0 rs end (keeps s t r e.0 p e.1) e.2

-- and so it holds of what is reached, if it does at the start
pub reached_keeps : (image : Image) (count : ℕ) (P : State → Type 0) → P (start_of image count) → ((s : State) (t : ℕ) (reply : Reply) (new : State) → P s → Step image s t reply new → P new) →
    (s : State) → IsReached image count s → P s
reached_keeps image count P start keeps s r = runs_keep image P keeps r.schedule (start_of image count) r.replies s start r.leads

-- A thread, and each thread of a state, that has what a family of locks wants.
use Rattle.std.specs.Prelude.{◌≡◌, ℕ, Bool, List, Some}
use Rattle.asl_lower.specs.Lowered.{Lowered}
use Rattle.asl_points_to.specs.Classes.{Classed}
use Rattle.asl_backward_flow.specs.Closed.{Family}
use Rattle.asl_machine.specs.State.{Object, Activity, State, activity_at}
use Rattle.asl_machine.specs.Cover.{Cover, cover}
use Rattle.asl_soundness.specs.Wanted.{TopHas, WaitingHave}

-- all frames of a thread have what is wanted
pub record HasWanted (l : Lowered) (c : Classed) (stores : ℕ → ℕ → Bool) (k_limit : ℕ) (K : Family) (k : Cover) (t : ℕ) (objects : List Object) (a : Activity) : Type 0 where
  pub top : TopHas l K k t objects a.top a.below
  pub waiting : WaitingHave l c stores k_limit K k t objects a.below

-- so it is of each running thread
abbrev pub HaveWanted : Lowered → Classed → (ℕ → ℕ → Bool) → ℕ → Family → State → Type 0
HaveWanted l c stores k_limit K s =
    (t : ℕ) (a : Activity) → activity_at s.threads t ≡ Some a → HasWanted l c stores k_limit K (cover s.holding a.fresh) t s.objects a

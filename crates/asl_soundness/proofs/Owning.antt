-- What a line of the table leaves of its own thread.
use Rattle.std.proofs.Common.{◌≡◌, ℕ, ◌<◌, List, Some, None, length, set, sym, ap, ◌∙◌, subst}
use Rattle.std.specs.Prelude.{option_and_then}
use Rattle.std.proofs.lemmas.Option.{same_Some}
use Rattle.asl_lock_forest.specs.Holding.{Holding}
use Rattle.asl_machine.specs.State.{Object, Activity, Thread, Running, State, activity_of, activity_at}
use Rattle.asl_machine.specs.Step.{after}
use Rattle.asl_machine.proofs.Lists.{get_same}

-- if the thread runs in the state, this holds of what it is at
abbrev pub IsOwn : (State → Activity → Type 0) → ℕ → State → Type 0
IsOwn P t new = (b : Activity) → activity_at new.threads t ≡ Some b → P new b

module _ (P : State → Activity → Type 0) (s : State) (t : ℕ) (lt : t < length s.threads) (objects : List Object) (holding : Holding) (new : State) where
  -- it runs on, at this
  pub runs_on : (b : Activity) → new ≡ after s t (Running b) objects holding → P (after s t (Running b) objects holding) b → IsOwn P t new
  runs_on b e p = subst (IsOwn P t) (sym e) (λ d f.
      let here : activity_at (set s.threads t (Running b)) t ≡ Some b = ap (option_and_then activity_of) (get_same s.threads t (Running b) lt) in
      subst (P (after s t (Running b) objects holding)) (same_Some b d (sym here ∙ f)) p)

  -- it has ended
  pub ends_on : (thread : Thread) → activity_of thread ≡ None → new ≡ after s t thread objects holding → IsOwn P t new
  ends_on thread none e = subst (IsOwn P t) (sym e) (λ d f.
      let here : activity_at (set s.threads t thread) t ≡ None = ap (option_and_then activity_of) (get_same s.threads t thread lt) ∙ none in
      let bad : None ≡ Some d = sym here ∙ f in cc)

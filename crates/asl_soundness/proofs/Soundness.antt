-- All passes together: in each state of a run of an analysed program every frame has what it wants, and so each reply is safe.
use Rattle.std.proofs.Common.{◌≡◌, ℕ, Bool, List, [], ◌∷◌, Some, All, refl, sym, subst}
use Rattle.std.proofs.lemmas.List.Elements.{All-nil, All-cons}
use Rattle.asl_code.specs.declared.image.Image.{Image}
use Rattle.asl_lower.specs.Lowered.{Lowered}
use Rattle.asl_lower.specs.Facts.{HasLayout}
use Rattle.asl_points_to.specs.Classes.{Classed}
use Rattle.asl_backward_flow.specs.Closed.{Family}
use Rattle.asl_machine.specs.State.{Activity, State, activity_at}
use Rattle.asl_machine.specs.Run.{start_of, first_activity, IsReached}
use Rattle.asl_machine.specs.ComputedRun.{replies_of}
use Rattle.asl_machine.specs.Cover.{cover}
use Rattle.asl_machine.specs.StepFunction.{step_of}
use Rattle.asl_machine.specs.Fresh.{AreApart}
use Rattle.asl_machine.proofs.Following.{Here}
use Rattle.asl_machine.proofs.ReachedApart.{start_apart, step_of_apart}
use Rattle.asl_machine.proofs.TableRuns.{run_only}
use Rattle.asl_soundness.specs.Safe.{IsSafe, NeverFaultsForLocks}
use Rattle.asl_soundness.proofs.Analysed.{IsAnalysed}
use Rattle.asl_soundness.proofs.Having.{HasWanted, HaveWanted}
use Rattle.asl_soundness.proofs.Regions.{no_region}
use Rattle.asl_soundness.proofs.Stepping.{each_step, each_thread, still, reached_keeps, first_at}
use Rattle.asl_soundness.proofs.Structure.{IsStructured, start_outside, start_structured, step_structured}
use Rattle.asl_soundness.proofs.Sections.{Ready}
use Rattle.asl_soundness.proofs.OwnLines.{line_owned}
use Rattle.asl_soundness.proofs.Others.{Change, Same, line_changes, others_keep}
use Rattle.asl_soundness.proofs.Safety.{line_safe}

module _ (l : Lowered) (c : Classed) (stores : ℕ → ℕ → Bool) (k_limit : ℕ) (K : Family) (image : Image) (A : IsAnalysed l c stores k_limit K image) where
  lay : HasLayout l
  lay = A.kept.layout

  -- what holds between steps
  pub record IsGood (s : State) : Type 0 where
    pub structured : IsStructured l c image s
    pub apart : AreApart image s
    pub has : HaveWanted l c stores k_limit K s

  start_good : (count : ℕ) → IsGood (start_of image count)
  start_good count = record {
    structured = start_structured l c image A.made lay count;
    apart = start_apart image count;
    has = λ u a e.
        (let first = first_at image count u a e in
        subst (HasWanted l c stores k_limit K _ u _) first.1
        (record { top = λ r g n w. absurd (no_region l (first_activity image first.0).top [] r (start_outside l c image A.made lay first.0) refl g); waiting = tt }));
  }

  abbrev ready : (s : State) (t : ℕ) (a : Activity) → IsGood s → Here image s t a → Ready l c stores k_limit K image s t a
  ready s t a h here = record { program = A; structured = h.structured; here = here; has = h.has t a here.is }

  step_good : (s : State) (t : ℕ) → IsGood s → IsGood (step_of image s t).state
  step_good s t h =
      let now = step_structured l c image A.made lay s t h.structured in
      let new = (step_of image s t).state in
      let change = each_step l c image A.made s t (λ r u. Change s t u.objects) h.structured.sound (λ a here i d. line_changes c image s t a here h.structured.agrees i _ _ d.line) (Same refl) in
      record {
        structured = now;
        apart = step_of_apart image s t h.structured.sound h.apart;
        has = each_thread image s t (λ u b. HasWanted l c stores k_limit K (cover new.holding b.fresh) u new.objects b)
            (each_step l c image A.made s t (λ r u. (b : Activity) → activity_at u.threads t ≡ Some b → HasWanted l c stores k_limit K (cover u.holding b.fresh) t u.objects b) h.structured.sound
            (λ a here i d. line_owned l c stores k_limit K image s t a (ready s t a h here) i _ _ d.at d.fits now.agrees (now.nested t) d.line) (h.has t))
            (λ u b apart is. others_keep l c stores k_limit K image A s t h.structured h.apart change u b apart is
            (now.sound.formed.placed u b (still image s t u b apart is)) (h.has u b is));
      }

  step_safe : (s : State) (t : ℕ) → IsGood s → IsSafe (step_of image s t).reply
  step_safe s t h = each_step l c image A.made s t (λ r u. IsSafe r) h.structured.sound (λ a here i d. line_safe l c stores k_limit K image s t a (ready s t a h here) i _ _ d.at d.line) tt

  pub reached_good : (count : ℕ) (s : State) → IsReached image count s → IsGood s
  reached_good count s r = reached_keeps image count IsGood (start_good count) step_good s r

  replies_safe : (schedule : List ℕ) (s : State) → IsGood s → All IsSafe (replies_of image s schedule)
  replies_safe [] s h = All-nil IsSafe
  replies_safe (t ∷ ts) s h = All-cons IsSafe (step_of image s t).reply (replies_of image (step_of image s t).state ts) (step_safe s t h) (replies_safe ts (step_of image s t).state (step_good s t h))

  -- no reply of any schedule is a fault for a missing lock, for a section that was not entered, or for one left open
  pub sound_program : NeverFaultsForLocks image
  sound_program count schedule replies end run =
      let computed = run_only image schedule (start_of image count) replies end run in
      subst (All IsSafe) (sym computed.0) (replies_safe schedule (start_of image count) (start_good count))

-- What a line of the table changes for the other threads: nothing, one cell that its thread may write, or objects that are
-- added; and so each other thread keeps what it wants.
use Rattle.std.proofs.Common.{◌≡◌, ◌≢◌, ℕ, ◌++◌, Bool, List, [], ◌∷◌, Some, refl, ap, sym, ◌∙◌, subst}
use Rattle.asl_code.specs.declared.image.Image.{Image}
use Rattle.asl_code.specs.declared.value.Value.{Value}
use Rattle.asl_code.specs.declared.value.Value.TheVariants.{Addr}
use Rattle.asl_code.specs.declared.value.Cell.{Cell}
use Rattle.asl_code.specs.declared.value.Effect.TheVariants.{Write}
use Rattle.asl_code.specs.declared.instr.Instr.{Instr}
use Rattle.asl_mode_lanes.specs.Mode.{AtMost}
use Rattle.asl_mode_lanes.proofs.ModeLaws.{at_most_refl}
use Rattle.asl_lock_forest.specs.Holding.{held}
use Rattle.asl_lower.specs.Lowered.{Lowered}
use Rattle.asl_points_to.specs.Classes.{Classed}
use Rattle.asl_backward_flow.specs.Closed.{Family}
use Rattle.asl_machine.specs.declared.reply.Reply.{Reply}
use Rattle.asl_machine.specs.State.{Object, Activity, State, cell_at, written, new_object, activity_at}
use Rattle.asl_machine.specs.WellFormed.{IsPlaced}
use Rattle.asl_machine.specs.Cover.{cover}
use Rattle.asl_machine.specs.Fresh.{IsFreshFor, AreApart}
use Rattle.asl_machine.proofs.Freshness.{allowed_covers}
use Rattle.asl_machine.specs.Step.{Line}
use Rattle.asl_machine.specs.StepFunction.{step_of}
use Rattle.asl_machine.proofs.Following.{Here}
use Rattle.asl_machine.proofs.ValueLines.{at_of}
use Rattle.asl_machine.proofs.Others.{step_leaves_held}
use Rattle.asl_machine.proofs.LineKinds.{Kind, Setting, Going, Storing, Making, Calling, Returning, Ending, Entering, Waiting, Leaving, Failing, line_kind}
use Rattle.asl_soundness.specs.Coded.{classed}
use Rattle.asl_soundness.specs.Agrees.{Agrees}
use Rattle.asl_soundness.proofs.Analysed.{IsAnalysed}
use Rattle.asl_soundness.proofs.Having.{HasWanted}
use Rattle.asl_soundness.proofs.Protecting.{get_some}
use Rattle.asl_soundness.proofs.Standing.{globals_point}
use Rattle.asl_soundness.proofs.Avoiding.{MayWrite}
use Rattle.asl_soundness.proofs.Keeping.{NoneShunned, IsAtLeast, more_keeps, stored_keeps, made_keeps, thread_keeps}
use Rattle.asl_soundness.proofs.Structure.{IsStructured}

-- what a step of the thread makes of the objects
pub data Change (s : State) (t : ℕ) (new : List Object) : Type 0 where
  Same : new ≡ s.objects → Change s t new
  Writes : (cell : Cell) (value : Value) → MayWrite s t cell → new ≡ written s.objects cell value → Change s t new
  Adds : (more : List Object) → new ≡ s.objects ++ more → Change s t new

module _ (c : Classed) (image : Image) (s : State) (t : ℕ) (a : Activity) (h : Here image s t a) (agrees : Agrees c s) where
  same : (new : State) (u : State) → u.objects ≡ s.objects → new ≡ u → Change s t new.objects
  same new u e f = Same (ap (λ (w : State). w.objects) f ∙ e)

  kind_changes : (i : Instr) (r : Reply) (new : State) → Kind (at_of image s t a) i r new → Change s t new.objects
  kind_changes i r new (Setting to v comes e) = same new _ refl e
  kind_changes i r new (Going depth target deep e) = same new _ refl e
  kind_changes i r new (Storing address from is ran e) =
      let target = (agrees.threads t a h.is).0 address (Addr e.cell.object e.cell.offset) e.reads_address in
      let old = get_some (cell_at s.objects e.cell) (h.placed.points address (Addr e.cell.object e.cell.offset) e.reads_address) in
      let allowed = allowed_covers image s t a Write e.cell target.0 e.allowed target.2 in
      Writes e.cell e.value (record { at = a; is = h.is; register = address; reads = e.reads_address; old = old.0; there = old.1; hit = target.0; class = target.2; allowed = allowed }) (ap (λ (u : State). u.objects) e.goes_on)
  kind_changes i r new (Making to cells class is ran e) = Adds (new_object class cells ∷ []) (ap (λ (u : State). u.objects) e.makes)
  kind_changes i r new (Calling to first g e) = same new _ refl e.calls
  kind_changes i r new (Returning from e) = same new _ refl e.returns
  kind_changes i r new (Ending from e) = same new _ refl e.ends
  kind_changes i r new (Entering list is ran e) = same new _ refl e.goes_on
  kind_changes i r new (Waiting list e) = same new s refl e.same
  kind_changes i r new (Leaving is ran e) = same new _ refl e.leaves
  kind_changes i r new (Failing f is e) = same new _ refl e

  pub line_changes : (i : Instr) (r : Reply) (new : State) → Line (at_of image s t a) (classed c i) r new → Change s t new.objects
  line_changes i r new e = kind_changes (classed c i) r new (line_kind (at_of image s t a) (classed c i) r new e)

-- each other thread keeps what it wants
module _ (l : Lowered) (c : Classed) (stores : ℕ → ℕ → Bool) (k_limit : ℕ) (K : Family) (image : Image) (A : IsAnalysed l c stores k_limit K image) (s : State) (t : ℕ) (h : IsStructured l c image s) (fr : AreApart image s) where
  -- over the changed objects, under the old holding
  changed : (new : List Object) → Change s t new → (u : ℕ) (b : Activity) → u ≢ t → activity_at s.threads u ≡ Some b → HasWanted l c stores k_limit K (cover s.holding b.fresh) u s.objects b → HasWanted l c stores k_limit K (cover s.holding b.fresh) u new b
  changed new (Same e) u b apart is has = subst (λ objects. HasWanted l c stores k_limit K (cover s.holding b.fresh) u objects b) (sym e) has
  changed new (Writes cell value w e) u b apart is has =
      subst (λ objects. HasWanted l c stores k_limit K (cover s.holding b.fresh) u objects b) (sym e)
      (thread_keeps l c stores k_limit K A.closed A.based u (IsFreshFor s t) (cover s.holding b.fresh) (cover s.holding b.fresh) s.objects (written s.objects cell value)
      (stored_keeps c image s h.sound fr A.made.globals u t b apart is cell value w) image b (h.sound.formed.placed u b is) (λ o f. fr.registers u t o b apart f is) has)
  changed new (Adds more e) u b apart is has =
      subst (λ objects. HasWanted l c stores k_limit K (cover s.holding b.fresh) u objects b) (sym e)
      (thread_keeps l c stores k_limit K A.closed A.based u NoneShunned (cover s.holding b.fresh) (cover s.holding b.fresh) s.objects (s.objects ++ more)
      (made_keeps c u (cover s.holding b.fresh) s.objects more (globals_point l c image A.made s h.sound) h.sound.formed.objects.points) image b (h.sound.formed.placed u b is) (λ o f. absurd f) has)

  -- and under the new one, of which its own part is the same
  pub others_keep : Change s t (step_of image s t).state.objects → (u : ℕ) (b : Activity) → u ≢ t → activity_at s.threads u ≡ Some b → IsPlaced image (step_of image s t).state.objects b →
      HasWanted l c stores k_limit K (cover s.holding b.fresh) u s.objects b → HasWanted l c stores k_limit K (cover (step_of image s t).state.holding b.fresh) u (step_of image s t).state.objects b
  others_keep change u b apart is now has =
      let new = (step_of image s t).state in
      let more : IsAtLeast (cover s.holding b.fresh) (cover new.holding b.fresh) u = record {
        holds = λ node. subst (AtMost (held s.holding u node)) (sym (step_leaves_held image s t u node apart)) (at_most_refl (held s.holding u node));
        fresh = λ o f. f;
      } in
      thread_keeps l c stores k_limit K A.closed A.based u NoneShunned (cover s.holding b.fresh) (cover new.holding b.fresh) new.objects new.objects (more_keeps c u (cover s.holding b.fresh) (cover new.holding b.fresh) new.objects more) image b now (λ o f. absurd f)
      (changed new.objects change u b apart is has)

-- A lock of a frame that is protected with its dereferenced prefixes is protected after each step of another thread.
use Rattle.std.proofs.Common.{◌≡◌, ◌≢◌, ℕ, zero, suc, ◌++◌, List, [], ◌∷◌, Option, Some, slice_get, refl, sym, subst}
use Rattle.std.proofs.lemmas.Option.{same_Some}
use Rattle.asl_code.specs.declared.image.Image.{Image}
use Rattle.asl_code.specs.declared.value.Value.{Value}
use Rattle.asl_code.specs.declared.value.Cell.{Cell}
use Rattle.asl_code.specs.declared.value.Effect.TheVariants.{Read}
use Rattle.asl_code.specs.declared.lock.Lock.{Lock}
use Rattle.asl_code.specs.declared.lock.Lock.TheVariants as lock
use Rattle.asl_mode_lanes.specs.Mode.{AtMost}
use Rattle.asl_mode_lanes.proofs.ModeLaws.{at_most_refl}
use Rattle.asl_lock_forest.specs.Holding.{held}
use Rattle.asl_lower.specs.Lowered.{Lowered}
use Rattle.asl_points_to.specs.Classes.{Classed}
use Rattle.asl_lock_expr.specs.Links.{dereferenced}
use Rattle.asl_machine.specs.State.{Object, Frame, Activity, State, written, activity_at}
use Rattle.asl_machine.specs.Access.{AllPoint}
use Rattle.asl_machine.specs.WellFormed.{AreSuspended, IsPlaced}
use Rattle.asl_machine.specs.Cover.{Cover, cover}
use Rattle.asl_machine.specs.Fresh.{IsFreshFor, PointElsewhere, AllElsewhere, AreApart}
use Rattle.asl_machine.specs.StepFunction.{step_of}
use Rattle.asl_machine.proofs.Others.{step_leaves_held}
use Rattle.asl_soundness.specs.Coded.{IsImageOf}
use Rattle.asl_soundness.specs.Protected.{Protected, LockThere}
use Rattle.asl_soundness.proofs.Protecting.{AllProtected}
use Rattle.asl_soundness.proofs.Standing.{globals_point}
use Rattle.asl_soundness.proofs.Stored.{store_elsewhere}
use Rattle.asl_soundness.proofs.Grown.{grown_protects}
use Rattle.asl_soundness.proofs.Avoiding.{MayWrite, Shun, prefix_avoids}
use Rattle.asl_soundness.proofs.Keeping.{IsAtLeast, more_protects}
use Rattle.asl_soundness.proofs.Others.{Change, Same, Writes, Adds, line_changes}
use Rattle.asl_soundness.proofs.Stepping.{each_step}
use Rattle.asl_soundness.proofs.Structure.{IsStructured}

-- the addresses in a frame's registers are those of cells that are there
waiting_points : (image : Image) (objects : List Object) (above : ℕ) (result : Option ℕ) (fs : List Frame) → AreSuspended image objects above result fs → (place : ℕ) (f : Frame) → slice_get fs place ≡ Some f → AllPoint objects f.regs
waiting_points image objects above result [] susp place f e = cc
waiting_points image objects above result (g ∷ gs) susp zero f e = subst (λ (x : Frame). AllPoint objects x.regs) (same_Some g f e) susp.0.points
waiting_points image objects above result (g ∷ gs) susp (suc place) f e = waiting_points image objects g.function g.result gs susp.1 place f e

frame_points : (image : Image) (objects : List Object) (a : Activity) → IsPlaced image objects a → (place : ℕ) (f : Frame) → slice_get (a.top ∷ a.below) place ≡ Some f → AllPoint objects f.regs
frame_points image objects a placed zero f e = subst (λ (x : Frame). AllPoint objects x.regs) (same_Some a.top f e) placed.points
frame_points image objects a placed (suc place) f e = waiting_points image objects a.top.function a.top.result a.below placed.below place f e

-- none of them is in an object in which no frame has an address
frame_elsewhere : (o : ℕ) (fs : List Frame) → AllElsewhere o fs → (place : ℕ) (f : Frame) → slice_get fs place ≡ Some f → PointElsewhere o f.regs
frame_elsewhere o [] away place f e = cc
frame_elsewhere o (g ∷ gs) away zero f e = subst (λ (x : Frame). PointElsewhere o x.regs) (same_Some g f e) away.0
frame_elsewhere o (g ∷ gs) away (suc place) f e = frame_elsewhere o gs away.1 place f e

-- thread u steps, thread t is at a
module _ (l : Lowered) (c : Classed) (image : Image) (made : IsImageOf l c image) (s : State) (q : IsStructured l c image s) (fr : AreApart image s) (t u : ℕ) (a : Activity) (apart : t ≢ u) (is : activity_at s.threads t ≡ Some a) where
  abbrev k : Cover
  k = cover s.holding a.fresh

  stored : (cell : Cell) (value : Value) → MayWrite s u cell → (regs : List Value) → Shun (IsFreshFor s u) regs → (n : Lock) → LockThere c n →
      AllProtected k t s.objects regs (dereferenced n) → Protected k t s.objects regs n → Protected k t (written s.objects cell value) regs n
  stored cell value w regs away (lock.Root effect) there read p = p
  stored cell value w regs away (lock.Class x effect) there read p = p
  stored cell value w regs away (lock.Expr e effect) there read p =
      store_elsewhere k t s.objects cell value w.old w.there regs e effect
      (prefix_avoids c image s q.sound fr made.globals t u a apart is regs away e there (λ d o. read (lock.Expr d Read) o) cell w) p

  added : (more : List Object) (regs : List Value) → AllPoint s.objects regs → (n : Lock) → LockThere c n → Protected k t s.objects regs n → Protected k t (s.objects ++ more) regs n
  added more regs points (lock.Root effect) there p = p
  added more regs points (lock.Class x effect) there p = p
  added more regs points (lock.Expr e effect) there p =
      grown_protects c k t s.objects more regs regs points (globals_point l c image made s q.sound) q.sound.formed.objects.points e effect there refl p

  -- over the changed objects
  changed : (new : List Object) → Change s u new → (regs : List Value) → AllPoint s.objects regs → Shun (IsFreshFor s u) regs → (n : Lock) → LockThere c n →
      AllProtected k t s.objects regs (dereferenced n) → Protected k t s.objects regs n → Protected k t new regs n
  changed new (Same e) regs points away n there read p = subst (λ objects. Protected k t objects regs n) (sym e) p
  changed new (Writes cell value w e) regs points away n there read p = subst (λ objects. Protected k t objects regs n) (sym e) (stored cell value w regs away n there read p)
  changed new (Adds more e) regs points away n there read p = subst (λ objects. Protected k t objects regs n) (sym e) (added more regs points n there p)

  -- and under the holding after the step, of which its own part is the same
  pub others_leave : (place : ℕ) (f : Frame) (n : Lock) → slice_get (a.top ∷ a.below) place ≡ Some f → LockThere c n → AllProtected k t s.objects f.regs (dereferenced n) → Protected k t s.objects f.regs n →
      Protected (cover (step_of image s u).state.holding a.fresh) t (step_of image s u).state.objects f.regs n
  others_leave place f n at there read p =
      let new = (step_of image s u).state in
      let change = each_step l c image made s u (λ r w. Change s u w.objects) q.sound (λ b here i d. line_changes c image s u b here q.agrees i _ _ d.line) (Same refl) in
      let more : IsAtLeast k (cover new.holding a.fresh) t = record {
        holds = λ node. subst (AtMost (held s.holding t node)) (sym (step_leaves_held image s u t node apart)) (at_most_refl (held s.holding t node));
        fresh = λ o g. g;
      } in
      more_protects t k (cover new.holding a.fresh) new.objects f.regs more n
      (changed new.objects change f.regs (frame_points image s.objects a (q.sound.formed.placed t a is) place f at)
      (λ o g. frame_elsewhere o (a.top ∷ a.below) (fr.registers t u o a apart g is) place f at) n there read p)

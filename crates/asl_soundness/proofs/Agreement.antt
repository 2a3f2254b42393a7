-- Every step keeps a state's agreement with legal classes, line by line.
use Rattle.std.proofs.Common.{◌≡◌, ℕ, ◌+◌, ◌<◌, ◌++◌, List, [], ◌∷◌, Some, None, length, slice_get, refl, ap, sym, ◌∙◌, subst, inl, inr}
use Rattle.std.specs.Prelude.{unwrap_or}
use Rattle.std.proofs.lemmas.Option.{same_Some}
use Rattle.asl_code.specs.declared.image.Image.{Image}
use Rattle.asl_code.specs.declared.image.Function.{Function}
use Rattle.asl_code.specs.declared.instr.Instr.{Instr}
use Rattle.asl_code.specs.declared.instr.Instr.TheVariants as instr
use Rattle.asl_code.specs.declared.value.Value.{Value}
use Rattle.asl_code.specs.declared.value.Value.TheVariants.{Int, Null, Addr}
use Rattle.asl_code.specs.declared.value.Cell.{Cell}
use Rattle.asl_lock_forest.specs.Holding.{Holding}
use Rattle.asl_lower.specs.Lowered.{Lowered}
use Rattle.asl_points_to.specs.Classes.{Classed, to, inside, Gives, IsLegalAt}
use Rattle.asl_lock_expr.specs.Agrees.{PointsTo}
use Rattle.asl_machine.specs.declared.reply.Reply.{Reply}
use Rattle.asl_machine.specs.declared.reply.Reply.TheVariants as reply
use Rattle.asl_machine.specs.State.{Frame, Activity, Thread, Running, Done, Failed, State, cell_at, class_of, written, new_object, activity_of}
use Rattle.asl_machine.specs.Calls.{first_registers, values_from, with_register}
use Rattle.asl_machine.specs.WellFormed.{AreSuspended}
use Rattle.asl_machine.specs.Step.{Line, Sets, ContinuesAt, after, returned}
use Rattle.asl_machine.proofs.Heaps.{class_of-written}
use Rattle.asl_machine.proofs.Following.{Here}
use Rattle.asl_machine.proofs.Placing.{function_is}
use Rattle.asl_machine.proofs.ValueLines.{at_of}
use Rattle.asl_machine.proofs.LineKinds.{line_fails}
use Rattle.asl_soundness.specs.Coded.{classed, IsImageOf}
use Rattle.asl_soundness.specs.Agrees.{FrameAgrees, FramesAgree, ThreadAgrees, Agrees}
use Rattle.asl_soundness.proofs.Protecting.{get_within}
use Rattle.asl_soundness.proofs.Arguments.{passed}
use Rattle.asl_soundness.proofs.Standing.{body_of, call_at, globals_agree}
use Rattle.asl_soundness.proofs.Agreeing.{points_given, Grows, frames_grown, frame_set, agrees_after, stored_agrees, made_grows, made_agrees, made_class}

module _ (l : Lowered) (c : Classed) (image : Image) (made : IsImageOf l c image) (s : State) (t : ℕ) (a : Activity) (h : Here image s t a) (agrees : Agrees c s)
    (sites : (pc a n site : ℕ) → slice_get l.code pc ≡ Some (instr.New a n site) → site < length c.sites) where
  own : ThreadAgrees c s.objects a
  own = agrees.threads t a h.is

  -- a line that leaves the objects, and the thread running at this
  keeps : (b : Activity) (holding : Holding) (new : State) → ThreadAgrees c s.objects b → new ≡ after s t (Running b) s.objects holding → Agrees c new
  keeps b holding new p e =
      subst (Agrees c) (sym e) (agrees_after c s t (Running b) s.objects holding agrees h.there agrees.cells (λ n x g. g) (λ d f. subst (ThreadAgrees c s.objects) (same_Some b d f) p))

  -- and one after which it does not run
  ended : (thread : Thread) (holding : Holding) (new : State) → activity_of thread ≡ None → new ≡ after s t thread s.objects holding → Agrees c new
  ended thread holding new none e =
      subst (Agrees c) (sym e) (agrees_after c s t thread s.objects holding agrees h.there agrees.cells (λ n x g. g) (λ d f. (let g : None ≡ Some d = sym none ∙ f in cc)))

  sets : (r : ℕ) (v : Value) (new : State) → PointsTo (class_of s.objects) (to c a.top.function r) v → Sets (at_of image s t a) r v new → Agrees c new
  sets r v new p e = keeps _ s.holding new (frame_set c s.objects a.top.function a.top.regs r v own.0 p, own.1) e

  -- `store`
  stores : (r from : ℕ) (cell : Cell) (v : Value) (new : State) → IsLegalAt l c a.top.function (instr.Store r from) → slice_get a.top.regs r ≡ Some (Addr cell.object cell.offset) → slice_get a.top.regs from ≡ Some v →
      ContinuesAt (at_of image s t a) a.depth (written s.objects cell v) s.holding new → Agrees c new
  stores r from cell v new legal reads_r reads_v e =
      let target = own.0 r (Addr cell.object cell.offset) reads_r in
      let points = points_given (class_of s.objects) (to c a.top.function from) (inside c target.0) v (λ z k. legal target.0 z target.1 k) (own.0 from v reads_v) in
      let grows : Grows s.objects (written s.objects cell v) = λ n z k. class_of-written s.objects cell v n ∙ k in
      subst (Agrees c) (sym e)
      (agrees_after c s t _ (written s.objects cell v) s.holding agrees h.there (stored_agrees c s.objects cell v target.0 agrees.cells target.2 points) grows
      (λ d k. subst (ThreadAgrees c (written s.objects cell v)) (same_Some _ d k) (frames_grown c s.objects (written s.objects cell v) grows (a.top ∷ a.below) own)))

  -- `load`
  loads : (r from : ℕ) (cell : Cell) (v : Value) → IsLegalAt l c a.top.function (instr.Load r from) → slice_get a.top.regs from ≡ Some (Addr cell.object cell.offset) → cell_at s.objects cell ≡ Some v → PointsTo (class_of s.objects) (to c a.top.function r) v
  loads r from cell v legal reads there =
      let target = own.0 from (Addr cell.object cell.offset) reads in
      points_given (class_of s.objects) (inside c target.0) (to c a.top.function r) v (λ y e. legal target.0 y target.1 e) (agrees.cells cell v target.0 there target.2)

  -- `field`
  fields : (r from : ℕ) (cell : Cell) (i : ℕ) → Gives (to c a.top.function from) (to c a.top.function r) → slice_get a.top.regs from ≡ Some (Addr cell.object cell.offset) → PointsTo (class_of s.objects) (to c a.top.function r) (Addr cell.object i)
  fields r from cell i gives reads = let target = own.0 from (Addr cell.object cell.offset) reads in (target.0, gives target.0 target.1, target.2)

  -- `glob`
  globes : (r g : ℕ) → g < length image.globals → Gives (slice_get c.globals g) (to c a.top.function r) → PointsTo (class_of s.objects) (to c a.top.function r) (Addr g 0)
  globes r g lt gives =
      let x = get_within c.globals g (subst (λ xs. g < length xs) made.globals lt) in
      (x.0, gives x.0 x.1, globals_agree l c image made s h.sound g x.0 x.1)

  -- `new`
  makes : (r cells class : ℕ) (new : State) → to c a.top.function r ≡ Some class → Line (at_of image s t a) (instr.New r cells class) reply.Ran new → Agrees c new
  makes r cells class new gives e =
      let more = s.objects ++ new_object class cells ∷ [] in
      let grown = frames_grown c s.objects more (made_grows s.objects class cells) (a.top ∷ a.below) own in
      subst (Agrees c) (sym e.makes)
      (agrees_after c s t _ more s.holding agrees h.there (made_agrees c s.objects class cells agrees.cells) (made_grows s.objects class cells)
      (λ d k. subst (ThreadAgrees c more) (same_Some _ d k)
      (frame_set c more a.top.function a.top.regs r (Addr (length s.objects) 0) grown.0 (class, gives, made_class s.objects class cells), grown.1)))

  -- `call`
  called_frame : (r first g : ℕ) (callee : Function) (count : ℕ) → IsLegalAt l c a.top.function (instr.Call r first g) → slice_get l.functions g ≡ Some callee →
      FrameAgrees c s.objects g (first_registers (values_from a.top.regs first callee.params) count)
  called_frame r first g callee count legal there n v e =
      elim (passed a.top.regs first callee.params count n v e) [
        | inl from ↦ points_given (class_of s.objects) (to c a.top.function (first + n)) (to c g n) v (legal.passed callee n there from.0) (own.0 (first + n) v from.1)
        | inr is ↦ subst (PointsTo (class_of s.objects) (to c g n)) (sym is) tt
      ]

  -- `ret`
  pub returned_agrees : (from r : ℕ) (caller : Frame) (others : List Frame) (v : Value) → slice_get l.code a.top.pc ≡ Some (instr.Return from) → a.below ≡ caller ∷ others → a.top.result ≡ Some r → slice_get a.top.regs from ≡ Some v →
      ThreadAgrees c s.objects (returned a (with_register r v caller) others)
  returned_agrees from r caller others v at below awaits reads =
      let susp : AreSuspended image s.objects a.top.function a.top.result (caller ∷ others) = subst (AreSuspended image s.objects a.top.function a.top.result) below h.placed.below in
      let u = susp.0 in
      let frames : FramesAgree c s.objects (caller ∷ others) = subst (FramesAgree c s.objects) below own.1 in
      let same : u.to ≡ r = same_Some u.to r (sym u.awaits ∙ awaits) in
      let legal = made.legal.instrs caller.function u.call (instr.Call u.to u.first a.top.function) (body_of l c image made caller.function u.call u.function u.inside) (call_at l c image made s.objects a.top.function a.top.result caller u) in
      let gives = legal.returned a.top.pc from (body_of l c image made a.top.function a.top.pc h.placed.function h.placed.lies) at in (
        frame_set c s.objects caller.function caller.regs r v frames.0
            (subst (λ x. PointsTo (class_of s.objects) (to c caller.function x) v) same (points_given (class_of s.objects) (to c a.top.function from) (to c caller.function u.to) v gives (own.0 from v reads))),
        frames.1,
      )

  -- every line of the table
  pub line_agrees : (i : Instr) (r : Reply) (new : State) → slice_get l.code a.top.pc ≡ Some i → slice_get image.code a.top.pc ≡ Some (classed c i) → IsLegalAt l c a.top.function i → Line (at_of image s t a) (classed c i) r new → Agrees c new
  line_agrees (instr.SetInt x n) reply.Ran new at here legal e = sets x (Int n) new tt e
  line_agrees (instr.SetNull x) reply.Ran new at here legal e = sets x Null new tt e
  line_agrees (instr.Move x y) reply.Ran new at here legal e = sets x e.0 new (points_given (class_of s.objects) (to c a.top.function y) (to c a.top.function x) e.0 legal (own.0 y e.0 e.1)) e.2
  line_agrees (instr.Add x y z) reply.Ran new at here legal e = sets x _ new tt e.4
  line_agrees (instr.Subtract x y z) reply.Ran new at here legal e = sets x _ new tt e.4
  line_agrees (instr.LessThan x y z) reply.Ran new at here legal e =
      elim e.4 [
        | inl h ↦ sets x _ new tt h.1
        | inr h ↦ sets x _ new tt h.1
      ]
  line_agrees (instr.Equals x y z) reply.Ran new at here legal e =
      elim e.4 [
        | inl h ↦ sets x _ new tt h.1
        | inr h ↦ sets x _ new tt h.1
      ]
  line_agrees (instr.GlobalAddress x g) reply.Ran new at here legal e =
      sets x (Addr g 0) new (globes x g (h.sound.fits.instr_fits a.top.function a.top.pc h.placed.function (instr.GlobalAddress x g) h.placed.lies here).1.0 legal) e
  line_agrees (instr.FieldAddress x y d) reply.Ran new at here legal e = sets x _ new (fields x y e.cell (e.cell.offset + d) legal e.reads_address) e.sets
  line_agrees (instr.Load x y) reply.Ran new at here legal e = sets x e.value new (loads x y e.cell e.value legal e.reads_address e.there) e.sets
  line_agrees (instr.Store x y) reply.Ran new at here legal e = stores x y e.cell e.value new legal e.reads_address e.reads_value e.goes_on
  line_agrees (instr.New x n site) reply.Ran new at here legal e =
      let q = get_within c.sites site (sites a.top.pc x n site at) in
      makes x n _ new (legal q.0 q.1 ∙ sym (ap (λ o. Some (unwrap_or o 0)) q.1)) e
  line_agrees (instr.Jump target) reply.Ran new at here legal e = keeps _ s.holding new own e
  line_agrees (instr.JumpIfZero x target) reply.Ran new at here legal e =
      elim e.2 [
        | inl h ↦ keeps _ s.holding new own h.1
        | inr h ↦ keeps _ s.holding new own h.1
      ]
  line_agrees (instr.Call x first g) reply.Ran new at here legal e =
      let callee = ap (λ (f : Function). first_registers (values_from a.top.regs first f.params) f.regs) (function_is image g e.callee e.is) in
      keeps _ s.holding new
      (subst (FrameAgrees c s.objects g) (sym callee) (called_frame x first g e.callee e.callee.regs legal (ap (λ fs. slice_get fs g) (sym made.functions) ∙ e.is)), own) e.calls
  line_agrees (instr.Return from) reply.Ran new at here legal (inl e) =
      keeps _ s.holding new (returned_agrees from e.to e.caller e.others e.value at e.waiting e.awaits e.reads_value) e.returns
  line_agrees (instr.Return from) reply.Ran new at here legal (inr e) = ended (Done e.value) s.holding new refl e.ends
  line_agrees (instr.Output from) (reply.Out value) new at here legal e = keeps _ s.holding new own e.1
  line_agrees (instr.Acquire list) reply.Ran new at here legal (inl e) = keeps _ s.holding new own e.goes_on
  line_agrees (instr.Acquire list) reply.Ran new at here legal (inr e) = keeps _ _ new own e.goes_on
  line_agrees (instr.Acquire list) reply.Blocked new at here legal e = subst (Agrees c) (sym e.same) agrees
  line_agrees instr.Release reply.Ran new at here legal (inl e) = keeps _ s.holding new own e.goes_on
  line_agrees instr.Release reply.Ran new at here legal (inr e) = keeps _ _ new own e.leaves
  line_agrees i (reply.Fault f) new at here legal e = ended (Failed f) _ new refl (line_fails (at_of image s t a) (classed c i) f new e)
  line_agrees i r new at here legal e = absurd e

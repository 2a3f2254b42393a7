-- In a state that satisfies the invariant each thread is ready for its step: what the code of a step stands on is there.
use Rattle.std.proofs.Common.{◌≡◌, ℕ, ◌<◌, List, [], ◌∷◌, Option, Some, length, slice_get, ap, sym, ◌∙◌, subst, arith}
use Rattle.std.specs.Prelude.{IsSomeAnd, option_and_then}
use Rattle.std.specs.List.{AllByRecursion}
use Rattle.std.specs.Option.{option_map_or}
use Rattle.std.proofs.lemmas.Option.{slice_get_within}
use Rattle.asl_code.specs.declared.image.Image.{Image}
use Rattle.asl_code.specs.declared.image.Function.{Function}
use Rattle.asl_code.specs.declared.instr.Instr.{Instr}
use Rattle.asl_code.specs.Operands.{Operand, operands}
use Rattle.asl_code.specs.Operands as operand
use Rattle.asl_code.specs.Fits.{FitsImage, FitsOperand, FitsInstr}
use Rattle.asl_code.proofs.BodyPlaces.{lies_within}
use Rattle.asl_lock_forest.specs.Held.{Held}
use Rattle.asl_machine.specs.Cover.{is_fresh}
use Rattle.asl_machine.specs.State.{Object, Frame, Activity, Thread, Running, Done, Failed, State, activity_of}
use Rattle.asl_machine.specs.Access.{AreOfClasses}
use Rattle.asl_machine.specs.Ready.{CanUse, CanDo}
use Rattle.asl_machine.specs.WellFormed.{AreSuspended}
use Rattle.asl_machine.specs.Ready.{IsMachine, ThreadReady}
use Rattle.asl_machine.specs.Calls.{IsAwaited}
use Rattle.asl_machine.proofs.Freshness.{fresh_within}
use Rattle.asl_machine.proofs.Following.{outside_here}
use Rattle.asl_machine.proofs.Placing.{function_is, awaited_there}
use Rattle.asl_machine.proofs.Invariant.{locks_fit, instr_here, here_of}

-- an operand that fits can be used
can_use : (image : Image) (a : Activity) (n : ℕ) (f : Function) (o : Operand) → length a.top.regs ≡ f.regs → FitsOperand image n f o → CanUse image a.top o
can_use image a n f (operand.Register register) e h = omega (arith, e, h)
can_use image a n f (operand.Callee first function) e h =
    let params = ap (λ (g : Function). g.params) (function_is image function h.0 h.1) in
    (slice_get_within image.functions function h.0 h.1, omega (arith, e, params, h.2))
can_use image a n f (operand.Locks list) e h = (slice_get_within image.lists list h.0 h.1, locks_fit image f list h.0 h.1 h.2)
can_use image a n f o e h = tt

can_use_all : (image : Image) (a : Activity) (n : ℕ) (f : Function) (os : List Operand) → length a.top.regs ≡ f.regs → AllByRecursion (FitsOperand image n f) os → AllByRecursion (CanUse image a.top) os
can_use_all image a n f [] e h = tt
can_use_all image a n f (o ∷ os) e h = (can_use image a n f o e h.0, can_use_all image a n f os e h.1)

can_do : (image : Image) (a : Activity) (n : ℕ) (f : Function) (i : Instr) → length a.top.regs ≡ f.regs → FitsInstr image n f i → CanDo image a.top i
can_do image a n f i e h = can_use_all image a n f (operands i) e h

-- where a frame waits below, it has the register that awaits
pub awaited_below : (image : Image) (objects : List Object) (above : ℕ) (result : Option ℕ) (frames : List Frame) → FitsImage image → AreSuspended image objects above result frames → IsAwaited result frames
awaited_below image objects above result [] fits h = tt
awaited_below image objects above result (f ∷ fs) fits h =
    subst (λ r. IsSomeAnd r (λ register. register < length f.regs)) (sym h.0.awaits) (awaited_there image objects above result f fits h.0)

-- a thread of a machine is ready for its step
pub thread_ready : (image : Image) (objects : List Object) (forest : Held) (threads : List Thread) (t : ℕ) (thread : Thread) → IsMachine image objects forest threads →
    slice_get threads t ≡ Some thread → ThreadReady image forest objects t thread
thread_ready image objects forest threads t (Done v) m e = tt
thread_ready image objects forest threads t (Failed f) m e = tt
thread_ready image objects forest threads t (Running a) m e =
    let s : State = record { objects = objects; holding = forest.holding; threads = threads } in
    let h = here_of image s t a m.sound e in
    let found = instr_here image objects a h.placed m.sound.fits in
    let inside = lies_within image a.top.function a.top.pc h.placed.function h.placed.lies in
    let small = m.sound.fits.few_instrs in
    let total = m.sound.fits.total in
    let counted = m.counted in
    let below : t < length threads = h.there in (
      record {
        fits = m.sound.fits;
        there = omega arith;
        classes = m.classes;
        room = omega arith;
        points = h.placed.points;
        object_classes = subst (λ n. AreOfClasses n objects) (sym m.classes) m.sound.formed.objects.classes;
        few_objects = m.sound.formed.objects.few;
        few_frames = let few = h.placed.few in omega arith;
        outside = outside_here image s t a h;
        awaited = awaited_below image objects a.top.function a.top.result a.below m.sound.fits h.placed.below;
        fresh = fresh_within (length objects) a.fresh (λ o f. (m.apart.there t o (ap (λ x. is_fresh (option_map_or (λ (b : Activity). b.fresh) x []) o) (ap (option_and_then activity_of) e) ∙ f)).1);
      },
      subst (λ o. IsSomeAnd o (CanDo image a.top)) (sym found.1) (can_do image a a.top.function h.placed.function found.0 h.placed.registers found.2),
    )

-- A state whose addresses are where the classes say (docs/SOUNDNESS.md, "First pass: classes and structure").
use Rattle.std.specs.Prelude.{◌≡◌, ℕ, List, [], ◌∷◌, Some, slice_get}
use Rattle.asl_code.specs.declared.value.Value.{Value}
use Rattle.asl_points_to.specs.Classes.{Classed, to}
use Rattle.asl_lock_expr.specs.Agrees.{PointsTo, HeapAgrees}
use Rattle.asl_machine.specs.State.{Object, Frame, Activity, State, class_of, activity_at}
use Rattle.asl_machine.specs.Request.{heap_of}

-- what a register of the function holds, if it is an address, is that of an object of the class to which the register points
abbrev pub FrameAgrees : Classed → List Object → ℕ → List Value → Type 0
FrameAgrees c objects function regs = (r : ℕ) (v : Value) → slice_get regs r ≡ Some v → PointsTo (class_of objects) (to c function r) v

-- the same of each frame that waits
abbrev pub FramesAgree : Classed → List Object → List Frame → Type 0
FramesAgree c objects [] = Unit {0}
FramesAgree c objects (f ∷ fs) = FrameAgrees c objects f.function f.regs × FramesAgree c objects fs

-- of all frames of a thread
abbrev pub ThreadAgrees : Classed → List Object → Activity → Type 0
ThreadAgrees c objects a = FramesAgree c objects (a.top ∷ a.below)

-- what a cell holds, if it is an address, is that of an object of the class to which cells of the cell's class point
abbrev pub CellsAgree : Classed → List Object → Type 0
CellsAgree c objects = HeapAgrees c (class_of objects) (heap_of objects)

-- the state agrees with the classes: its cells, and all frames of each running thread
pub record Agrees (c : Classed) (s : State) : Type 0 where
  pub cells : CellsAgree c s.objects
  pub threads : (t : ℕ) (a : Activity) → activity_at s.threads t ≡ Some a → ThreadAgrees c s.objects a

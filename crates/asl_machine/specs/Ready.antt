-- Machinery of the proofs, not of the promise: what private functions want of a state so that an instruction can be done
-- in it, what a machine's parts keep, and what they are to contracts (docs/INSTRUCTIONS.md).
use Rattle.std.specs.Prelude.{◌≡◌, ◌<◌, ◌≤◌, ◌+◌, ◌^◌, ℕ, Bool, true, false, List, [], ◌∷◌, length, All, slice_get, IsSomeAnd}
use Rattle.std.specs.List.{AllByRecursion}
use Rattle.asl_code.specs.Operands.{Operand, operands}
use Rattle.asl_code.specs.Operands as operand
use Rattle.asl_code.specs.declared.image.Function.{Function}
use Rattle.asl_code.specs.declared.image.Image.{Image}
use Rattle.asl_code.specs.declared.instr.Instr.{Instr}
use Rattle.asl_code.specs.declared.instr.Instr.TheVariants.{Load, Store, New, Call, Output, Acquire, Release}
use Rattle.asl_code.specs.Fits.{FitsImage}
use Rattle.asl_code.specs.Verified.{IsVerified}
use Rattle.asl_lock_forest.specs.Held.{Held}
use Rattle.asl_lock_forest.specs.Holding.{HoldsNothing}
use Rattle.asl_machine.specs.declared.thread.Stage.{Stage}
use Rattle.asl_machine.specs.declared.thread.Stage.TheVariants as stage
use Rattle.asl_machine.specs.State.{Object, Frame, Activity, Thread, Running, Done, Failed}
use Rattle.asl_machine.specs.Calls.{function_of, frame_count, IsAwaited}
use Rattle.asl_machine.specs.Request.{LockOfClass, locks_of}
use Rattle.asl_machine.specs.Access.{AllPoint, AreOfClasses}
use Rattle.asl_machine.specs.Run.{IsReached, IsThreadCount}
use Rattle.asl_machine.specs.WellFormed.{SatisfiesInvariant}
use Rattle.asl_machine.specs.Fresh.{AreApart}

-- where each of these functions begins, of which the first begins at this place
abbrev pub firsts_from : ℕ → List Function → List ℕ
firsts_from first [] = []
firsts_from first (f ∷ fs) = first ∷ firsts_from (first + f.len) fs

-- a thread at this stage
abbrev pub thread_of : Stage → Thread
thread_of (stage.Running activity) = Running activity
thread_of (stage.Done value) = Done value
thread_of (stage.Failed f) = Failed f

-- the register, function or list that the operand names is there, with the arguments of the call and the classes that the
-- locks name
abbrev pub CanUse : Image → Frame → Operand → Type 0
CanUse image f (operand.Register register) = register < length f.regs
CanUse image f (operand.Callee first function) = (function < length image.functions) × (first + (function_of image function).params ≤ length f.regs)
CanUse image f (operand.Locks list) = (list < length image.lists) × All (LockOfClass image.classes) (locks_of image list)
CanUse image f other = Unit {0}

-- so is what each operand of the instruction names
abbrev pub CanDo : Image → Frame → Instr → Type 0
CanDo image f instr = AllByRecursion (CanUse image f) (operands instr)

-- whether the instruction changes the frames of its thread alone, asks for no lock and no memory, and shows nothing
abbrev pub is_local : Instr → Bool
is_local (Load to address) = false
is_local (Store address from) = false
is_local (New to cells class) = false
is_local (Call to first function) = false
is_local (Output from) = false
is_local (Acquire list) = false
is_local Release = false
is_local i = true

-- what an instruction of a thread stands on: the cells that its registers point to are there, outside all sections the
-- thread holds nothing, a frame below has the register that awaits the value of the one above, and what is fresh for
-- the thread is there
pub record IsReady (image : Image) (forest : Held) (objects : List Object) (thread : ℕ) (activity : Activity) : Type 0 where
  pub fits : FitsImage image
  pub there : thread < forest.threads
  pub classes : forest.classes ≡ image.classes
  pub room : activity.top.pc + 1 < 2 ^ 16
  pub points : AllPoint objects activity.top.regs
  pub object_classes : AreOfClasses forest.classes objects
  pub few_objects : length objects ≤ 65536
  pub few_frames : frame_count activity ≤ 256
  pub outside : activity.depth ≡ 0 → HoldsNothing forest.holding thread
  pub awaited : IsAwaited activity.top.result activity.below
  pub fresh : All (λ object. object < length objects) activity.fresh

-- a running thread is ready for the instruction that it is at, and that is one that it can do
abbrev pub ThreadReady : Image → Held → List Object → ℕ → Thread → Type 0
ThreadReady image forest objects t (Running activity) =
    IsReady image forest objects t activity × IsSomeAnd (slice_get image.code activity.top.pc) (CanDo image activity.top)
ThreadReady image forest objects t (Done value) = Unit {0}
ThreadReady image forest objects t (Failed f) = Unit {0}

-- what every machine keeps: its program is verified, its state is reached, sound, and with its fresh objects apart, its
-- forest is over its program's classes and its own threads, and the program's version allows so many
pub record IsMachine (image : Image) (objects : List Object) (forest : Held) (threads : List Thread) : Type 0 where
  pub verified : IsVerified image
  pub reached : IsReached image (length threads) (record { objects = objects; holding = forest.holding; threads = threads })
  pub sound : SatisfiesInvariant image (record { objects = objects; holding = forest.holding; threads = threads })
  pub apart : AreApart image (record { objects = objects; holding = forest.holding; threads = threads })
  pub classes : forest.classes ≡ image.classes
  pub counted : forest.threads ≡ length threads
  pub count : IsThreadCount image (length threads)

-- What holds of every state that a verified program reaches: each frame is in a body, with the registers of its
-- function; every address is that of a cell that is there, also in the value with which a thread has ended; who is in no
-- section holds nothing (docs/INSTRUCTIONS.md,
-- "What always holds").
use Rattle.std.specs.Prelude.{◌≡◌, ◌≢◌, ◌<◌, ◌≤◌, ◌+◌, ℕ, List, [], ◌∷◌, length, Option, None, Some, slice_get, IsSomeAnd}
use Rattle.asl_code.specs.declared.image.Function.{Function}
use Rattle.asl_code.specs.declared.image.Image.{Image}
use Rattle.asl_code.specs.Fits.{FitsImage, LiesIn}
use Rattle.asl_code.specs.declared.instr.Instr.{Instr}
use Rattle.asl_code.specs.declared.instr.Instr.TheVariants.{New, Call, Acquire}
use Rattle.asl_code.specs.declared.value.Value.{Value}
use Rattle.asl_code.specs.declared.value.Cell.{Cell}
use Rattle.asl_mode_lanes.specs.declared.mode.Mode.TheVariants.{NL}
use Rattle.asl_lock_forest.specs.declared.node.Node.{Node}
use Rattle.asl_lock_forest.specs.Holding.{held, HoldsNothing, IsLawful, IsWithin}
use Rattle.asl_machine.specs.State.{Object, Frame, Activity, Thread, Running, Done, Failed, State, cell_at, size_of, class_of, activity_at, depth_at}
use Rattle.asl_machine.specs.Calls.{frame_count}
use Rattle.asl_machine.specs.Access.{Points, AllPoint, AreOfClasses}
use Rattle.asl_machine.specs.Nodes.{IsNode}
use Rattle.asl_machine.specs.Request.{request_of, locks_of}

-- a frame waits after the `call` of its own function's body that made the frame above, which is of this function and
-- whose value goes to this register; it has its function's registers, and every address in them is a cell's
pub record IsSuspended (image : Image) (objects : List Object) (above : ℕ) (result : Option ℕ) (frame : Frame) : Type 0 where
  pub function : Function
  pub call : ℕ
  pub to : ℕ
  pub first : ℕ
  pub inside : LiesIn image frame.function call function
  pub calls : slice_get image.code call ≡ Some (Call to first above)
  pub awaits : result ≡ Some to
  pub behind : frame.pc ≡ call + 1
  pub lies : LiesIn image frame.function frame.pc function
  pub registers : length frame.regs ≡ function.regs
  pub points : AllPoint objects frame.regs

-- the frames below one of this function, whose value goes to this register: each waits for the one above it, and the
-- last frame of all is the entry function's, whose value no register awaits
abbrev pub AreSuspended : Image → List Object → ℕ → Option ℕ → List Frame → Type 0
AreSuspended image objects above result [] = (above ≡ image.start) × (result ≡ None)
AreSuspended image objects above result (frame ∷ frames) =
    IsSuspended image objects above result frame × AreSuspended image objects frame.function frame.result frames

-- a running thread is in the body of its function, with that function's registers; every address in them is a cell's;
-- the frames below are suspended
pub record IsPlaced (image : Image) (objects : List Object) (activity : Activity) : Type 0 where
  pub function : Function
  pub lies : LiesIn image activity.top.function activity.top.pc function
  pub registers : length activity.top.regs ≡ function.regs
  pub points : AllPoint objects activity.top.regs
  pub depth : activity.depth ≤ 255
  pub below : AreSuspended image objects activity.top.function activity.top.result activity.below
  pub few : length activity.below < 256

-- the objects are of classes that are there, at most 65,536 and each of at least one cell; every address in a cell is
-- that of a cell that is there; the globals come first, of one cell each and of their classes
pub record AreWellFormed (image : Image) (objects : List Object) : Type 0 where
  pub classes : AreOfClasses image.classes objects
  pub points : (cell : Cell) (value : Value) → cell_at objects cell ≡ Some value → Points objects value
  pub sizes : (number size : ℕ) → size_of objects number ≡ Some size → 0 < size
  pub few : length objects ≤ 65536
  pub globals : (global class : ℕ) → slice_get image.globals global ≡ Some class → (class_of objects global ≡ Some class) × (size_of objects global ≡ Some 1)

-- the objects are as they must be, and so is each running thread; a thread that has ended did so with a value that
-- points, if anywhere, to a cell that is there
pub record IsWellFormed (image : Image) (s : State) : Type 0 where
  pub objects : AreWellFormed image s.objects
  pub placed : (t : ℕ) (activity : Activity) → activity_at s.threads t ≡ Some activity → IsPlaced image s.objects activity
  pub ended : (t : ℕ) (value : Value) → slice_get s.threads t ≡ Some (Done value) → Points s.objects value

-- what holds of every state that a verified program reaches: it is well formed, who is in no section holds nothing,
-- what is held is lawful, and each node that is held is there
pub record SatisfiesInvariant (image : Image) (s : State) : Type 0 where
  pub fits : FitsImage image
  pub formed : IsWellFormed image s
  pub outside : (t : ℕ) → depth_at s.threads t ≡ 0 → HoldsNothing s.holding t
  pub lawful : IsLawful s.holding
  pub within : IsWithin image.classes (length s.threads) s.holding
  pub there : (t : ℕ) (node : Node) → held s.holding t node ≢ NL → IsNode image.classes s.objects node

-- these instructions may want memory: a `new` and a `call` with room for an object or a frame more, and an `acq`
-- outside all sections whose request names a node
abbrev pub WantsMemory : Image → List Object → Activity → Instr → Type 0
WantsMemory image objects activity (New to cells class) = length objects < 65536
WantsMemory image objects activity (Call to first function) = frame_count activity < 256
WantsMemory image objects activity (Acquire list) =
    (activity.depth ≡ 0) × (0 < length (request_of objects activity.top.regs (locks_of image list)))
WantsMemory image objects activity i = ⊥

-- the thread runs and is at an instruction that may want memory
abbrev pub ThreadWantsMemory : Image → List Object → Thread → Type 0
ThreadWantsMemory image objects (Running activity) = IsSomeAnd (slice_get image.code activity.top.pc) (WantsMemory image objects activity)
ThreadWantsMemory image objects (Done value) = ⊥
ThreadWantsMemory image objects (Failed f) = ⊥

-- the thread of this number is there, runs, and is at an instruction that may want memory
abbrev pub MayWantMemory : Image → State → ℕ → Type 0
MayWantMemory image s t = IsSomeAnd (slice_get s.threads t) (ThreadWantsMemory image s.objects)

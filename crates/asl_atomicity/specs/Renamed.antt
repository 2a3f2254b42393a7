-- States and replies that are the same but for the numbers of objects, and runs with serial ones up to these numbers
-- (docs/ATOMICITY.md, "Objects made in sections").
use Rattle.std.specs.Prelude.{◌≡◌, ◌≢◌, ◌<◌, ◌≤◌, ◌⊎◌, ℕ, List, map as each, length, All, None, slice_get, option_map}
use Rattle.std.specs.FinMap as map
use Rattle.asl_code.specs.declared.image.Image.{Image}
use Rattle.asl_code.specs.declared.value.Value.{Value}
use Rattle.asl_code.specs.declared.value.Value.TheVariants.{Int, Null, Addr}
use Rattle.asl_code.specs.declared.value.Cell.{Cell}
use Rattle.asl_lock_forest.specs.declared.node.Node.{Node}
use Rattle.asl_lock_forest.specs.declared.node.Node.TheVariants.{Root, Class, Leaf}
use Rattle.asl_lock_forest.specs.Keys.{key}
use Rattle.asl_machine.specs.declared.fault.Fault.{Fault}
use Rattle.asl_machine.specs.declared.fault.Fault.TheVariants as fault
use Rattle.asl_machine.specs.declared.reply.Reply.{Reply}
use Rattle.asl_machine.specs.declared.reply.Reply.TheVariants as reply
use Rattle.asl_machine.specs.State.{Object, Frame, Activity, Thread, Running, Done, Failed, State}
use Rattle.asl_machine.specs.Run.{start_of}
use Rattle.asl_atomicity.specs.Serial.{TakenStep, IsRun, told, outside, Counts, IsOutside, IsSerial}

-- other numbers for objects: each number has one, and is that of one
pub record Renaming : Type 0 where
  pub new : ℕ → ℕ
  pub old : ℕ → ℕ
  pub onto : (n : ℕ) → new (old n) ≡ n
  pub into : (n : ℕ) → old (new n) ≡ n

-- values, cells and nodes with other numbers for objects
abbrev pub value_by : (ℕ → ℕ) → Value → Value
value_by f (Int number) = Int number
value_by f Null = Null
value_by f (Addr object offset) = Addr (f object) offset

-- a cell with another number for its object, at the same offset
abbrev pub cell_by : (ℕ → ℕ) → Cell → Cell
cell_by f cell = record { object = f cell.object; offset = cell.offset }

-- a node of the lock tree, where the cell of a leaf has another number for its object
abbrev pub node_by : (ℕ → ℕ) → Node → Node
node_by f Root = Root
node_by f (Class class) = Class class
node_by f (Leaf cell class) = Leaf (cell_by f cell) class

-- so faults and replies
abbrev pub fault_by : (ℕ → ℕ) → Fault → Fault
fault_by f (fault.Unprotected cell effect) = fault.Unprotected (cell_by f cell) effect
fault_by f other = other

-- a reply, with other numbers for objects in the value that it puts out or in its fault
abbrev pub reply_by : (ℕ → ℕ) → Reply → Reply
reply_by f (reply.Out value) = reply.Out (value_by f value)
reply_by f (reply.Fault why) = reply.Fault (fault_by f why)
reply_by f other = other

-- so objects, frames and threads
abbrev pub object_by : (ℕ → ℕ) → Object → Object
object_by f object = record { class = object.class; cells = each (value_by f) object.cells }

-- a frame with other numbers for objects in its registers
abbrev pub frame_by : (ℕ → ℕ) → Frame → Frame
frame_by f frame = record { function = frame.function; pc = frame.pc; regs = each (value_by f) frame.regs; result = frame.result }

-- what a running thread is at, with other numbers for objects in its frames and for those that are fresh for it
abbrev pub activity_by : (ℕ → ℕ) → Activity → Activity
activity_by f a = record { depth = a.depth; top = frame_by f a.top; below = each (frame_by f) a.below; fresh = each f a.fresh }

-- a thread that runs or has ended, with other numbers for objects in what it is at, in its value or in its fault
abbrev pub thread_by : (ℕ → ℕ) → Thread → Thread
thread_by f (Running activity) = Running (activity_by f activity)
thread_by f (Done value) = Done (value_by f value)
thread_by f (Failed why) = Failed (fault_by f why)

-- the second state is the first with other numbers for objects
pub record IsRenamed (f : ℕ → ℕ) (one other : State) : Type 0 where
  pub count : length other.objects ≡ length one.objects
  pub objects : (n : ℕ) → slice_get other.objects (f n) ≡ option_map (object_by f) (slice_get one.objects n)
  pub holding : (thread : ℕ) (node : Node) → map.get other.holding (key thread (node_by f node)) ≡ map.get one.holding (key thread node)
  pub threads : other.threads ≡ each (thread_by f) one.threads

-- only objects below the count that are no globals have other numbers
pub record Keeps (f : ℕ → ℕ) (shared count : ℕ) : Type 0 where
  pub globals : (n : ℕ) → n < shared → f n ≡ n
  pub later : (n : ℕ) → count ≤ n → f n ≡ n

-- the run has a serial one, in which every step counts, that leads to the same end and tells each thread the same, but for the
-- numbers of the objects that are no globals, and has the steps outside sections, those that enter one among them, in the same order
pub record HasSerialUpTo (image : Image) (count : ℕ) (run : List TakenStep) (end : State) : Type 0 where
  pub serial : List TakenStep
  pub serial_end : State
  pub is_run : IsRun image (start_of image count) serial serial_end
  pub counts : All Counts serial
  pub is_serial : IsSerial None serial
  pub renaming : Renaming
  pub keeps : Keeps renaming.new (length image.globals) (length end.objects)
  pub state : IsRenamed renaming.new end serial_end
  pub replies : (thread : ℕ) → told thread serial ≡ each (reply_by renaming.new) (told thread run)
  pub order : outside serial ≡ outside run

-- the step does not find, inside a section, that there is no capacity for an object
abbrev pub FindsRoomInside : TakenStep → Type 0
FindsRoomInside step = IsOutside step ⊎ (step.reply ≢ reply.Fault fault.Full)

-- any run of so many threads in which no section runs out of objects has a serial one, up to the numbers of objects
abbrev pub HasSerialRunsUpTo : Image → ℕ → Type 0
HasSerialRunsUpTo image count =
    (run : List TakenStep) (end : State) → IsRun image (start_of image count) run end → All FindsRoomInside run → HasSerialUpTo image count run end

-- The state of a machine: its objects, what its threads hold, and its threads (docs/INSTRUCTIONS.md, "State").
-- Objects and threads are numbered from 0 without gaps, so lists serve as the maps from their numbers.
use Rattle.std.specs.Prelude.{ℕ, List, length, replicate, Option, None, Some, slice_get, slice_set, option_map, option_and_then, pos}
use Rattle.std.specs.Option.{option_map_or}
use Rattle.asl_code.specs.declared.value.Value.{Value}
use Rattle.asl_code.specs.declared.value.Value.TheVariants.{Int}
use Rattle.asl_code.specs.declared.value.Cell.{Cell}
use Rattle.asl_lock_forest.specs.Holding.{Holding}
use Rattle.asl_machine.specs.declared.fault.Fault.{Fault}

-- an object: its class, and what its cells hold, from offset 0 on
pub record Object : Type 0 where
  pub class : ℕ
  pub cells : List Value

-- a frame: its function, the place of its next instruction, its registers, and the register below that awaits its value
pub record Frame : Type 0 where
  pub function : ℕ
  pub pc : ℕ
  pub regs : List Value
  pub result : Option ℕ

-- what a running thread is at: how many sections it is in, its top frame, the frames below, the nearest first, and the
-- objects that are fresh for it, in the order in which it made them
pub record Activity : Type 0 where
  pub depth : ℕ
  pub top : Frame
  pub below : List Frame
  pub fresh : List ℕ

-- a thread runs, or has ended with a value or by a fault
pub data Thread : Type 0 where
  Running : (activity : Activity) → Thread
  Done : (value : Value) → Thread
  Failed : (fault : Fault) → Thread

-- the objects, who holds what, and the threads
pub record State : Type 0 where
  pub objects : List Object
  pub holding : Holding
  pub threads : List Thread

-- a new object of the class, with so many cells
abbrev pub new_object : ℕ → ℕ → Object
new_object class cells = record { class = class; cells = replicate cells (Int (pos 0)) }

-- what a cell holds, if the cell is there
abbrev pub cell_at : List Object → Cell → Option Value
cell_at objects cell = option_and_then (λ (object : Object). slice_get object.cells cell.offset) (slice_get objects cell.object)

-- how many cells an object has, if it is there
abbrev pub size_of : List Object → ℕ → Option ℕ
size_of objects number = option_map (λ (object : Object). length object.cells) (slice_get objects number)

-- the class of an object, if it is there
abbrev pub class_of : List Object → ℕ → Option ℕ
class_of objects number = option_map (λ (object : Object). object.class) (slice_get objects number)

-- an object with another value in one cell
abbrev pub with_cell : Object → ℕ → Value → Object
with_cell object offset value = record { class = object.class; cells = slice_set object.cells offset value }

-- the objects with another value in one cell
abbrev pub written : List Object → Cell → Value → List Object
written objects cell value =
    option_map_or (λ (object : Object). slice_set objects cell.object (with_cell object cell.offset value)) (slice_get objects cell.object) objects

-- what a thread is at, if it runs
abbrev pub activity_of : Thread → Option Activity
activity_of (Running activity) = Some activity
activity_of (Done value) = None
activity_of (Failed fault) = None

-- what the thread of this number is at, if it is there and runs
abbrev pub activity_at : List Thread → ℕ → Option Activity
activity_at threads number = option_and_then activity_of (slice_get threads number)

-- how many sections the thread of this number is in: none where it has ended or is not there
abbrev pub depth_at : List Thread → ℕ → ℕ
depth_at threads number = option_map_or (λ (a : Activity). a.depth) (activity_at threads number) 0

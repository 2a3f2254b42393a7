-- Which nodes of the lock tree there are over the objects of a state (docs/LOCKS.md, "Nodes"). The invariant of a machine cites it
-- (specs/WellFormed), and what `Machine` tells of requests and holders (src/machine/readers.rt); case: tests/cases/asl_machine/told.txt.
use Rattle.std.specs.Prelude.{◌≡◌, ◌<◌, ℕ, List, Some, IsSome}
use Rattle.asl_code.specs.declared.value.Cell.{Cell}
use Rattle.asl_lock_forest.specs.declared.node.Node.{Node}
use Rattle.asl_lock_forest.specs.declared.node.Node.TheVariants.{Root, Class, Leaf}
use Rattle.asl_machine.specs.State.{Object, cell_at, class_of}

-- the cell is there, and its object is of the class
pub record IsLeaf (objects : List Object) (cell : Cell) (class : ℕ) : Type 0 where
  pub classed : class_of objects cell.object ≡ Some class
  pub there : IsSome (cell_at objects cell)

-- the node is there: the root, a class below the count, or the leaf of a cell that is there, under its object's class
abbrev pub IsNode : ℕ → List Object → Node → Type 0
IsNode classes objects Root = Unit {0}
IsNode classes objects (Class class) = class < classes
IsNode classes objects (Leaf cell class) = IsLeaf objects cell class

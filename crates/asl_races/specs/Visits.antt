-- The cells that the evaluation of a lock list comes to (docs/LOCKS.md, "Expressions"), and which of them it reads.
use Rattle.std.specs.Prelude.{Bool, true, false, List, [], ◌∷◌, ◌++◌, Option, None, Some}
use Rattle.asl_code.specs.declared.lock.Lock.{Lock}
use Rattle.asl_code.specs.declared.lock.Lock.TheVariants as lock
use Rattle.asl_code.specs.declared.path.Op.{Op}
use Rattle.asl_code.specs.declared.path.Op.TheVariants.{Deref, Off}
use Rattle.asl_code.specs.declared.value.Value.{Value}
use Rattle.asl_code.specs.declared.value.Cell.{Cell}
use Rattle.asl_expression.specs.Expression.{base_cell, walked}
use Rattle.asl_machine.specs.State.{Object}
use Rattle.asl_machine.specs.Request.{heap_of}

-- a cell that an evaluation comes to, and whether it reads the cell; of the cell's object it may see the size and the class
pub record Visit : Type 0 where
  pub cell : Cell
  pub is_read : Bool

-- the visit of a cell that is read, or is not
abbrev pub visit : Cell → Bool → Visit
visit cell is_read = record { cell = cell; is_read = is_read }

-- whether the operation reads the cell at which it begins
abbrev pub reads : Op → Bool
reads Deref = true
reads (Off places) = false

-- the cells that the evaluation of a path comes to, from where it is on
abbrev pub visits : List Object → List Op → Option Cell → List Visit
visits objects [] None = []
visits objects [] (Some cell) = visit cell false ∷ []
visits objects (op ∷ ops) None = []
visits objects (op ∷ ops) (Some cell) = visit cell (reads op) ∷ visits objects ops (walked (heap_of objects) op cell)

-- those of the expressions of a list, one after the other
abbrev pub visited : List Object → List Value → List Lock → List Visit
visited objects regs [] = []
visited objects regs (lock.Expr expr effect ∷ locks) = visits objects expr.path (base_cell regs expr.base) ++ visited objects regs locks
visited objects regs (lock.Class class effect ∷ locks) = visited objects regs locks
visited objects regs (lock.Root effect ∷ locks) = visited objects regs locks

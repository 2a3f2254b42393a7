-- The cell that a lock expression denotes in given registers and a given heap (docs/LOCKS.md, "Expressions"). Expressions
-- that are evaluated at a section's entry are those of S. Cherem, T. Chilimbi, S. Gulwani, "Inferring Locks for Atomic
-- Sections" (2008); here each try of the entry evaluates them anew.
use Rattle.std.specs.Prelude.{ℕ, ◌+◌, List, [], ◌∷◌, Option, None, Some, slice_get, option_and_then, nat_lt, if◌then◌else◌}
use Rattle.asl_code.specs.declared.value.Value.{Value}
use Rattle.asl_code.specs.declared.value.Value.TheVariants.{Int, Null, Addr}
use Rattle.asl_code.specs.declared.value.Cell.{Cell}
use Rattle.asl_code.specs.declared.lock.Base.{Base}
use Rattle.asl_code.specs.declared.lock.Base.TheVariants.{Reg, Global}
use Rattle.asl_code.specs.declared.lock.Expr.{Expr}
use Rattle.asl_code.specs.declared.path.Op.{Op}
use Rattle.asl_code.specs.declared.path.Op.TheVariants.{Deref, Off}

-- what an evaluation sees of a heap: the value of a cell and the size of an object, where they are there
pub record Seen : Type 0 where
  pub cell : Cell → Option Value
  pub size : ℕ → Option ℕ

-- the cell of this object at this offset
abbrev pub cell_of : ℕ → ℕ → Cell
cell_of object offset = record { object = object; offset = offset }

-- the cell that a value is the address of
abbrev pub pointed : Value → Option Cell
pointed (Int number) = None
pointed Null = None
pointed (Addr object offset) = Some (cell_of object offset)

-- where an evaluation begins: the address in a register, or the one cell of a global
abbrev pub base_cell : List Value → Base → Option Cell
base_cell regs (Reg register) = option_and_then pointed (slice_get regs register)
base_cell regs (Global global) = Some (cell_of global 0)

-- the cell some places on, if its object has it
abbrev pub moved : Seen → ℕ → Cell → Option Cell
moved heap places cell =
    option_and_then (λ size. if nat_lt (cell.offset + places) size then Some (cell_of cell.object (cell.offset + places)) else None)
    (heap.size cell.object)

-- one operation: `*` goes to the cell whose address the cell holds, `.i` continues in the same object
abbrev pub walked : Seen → Op → Cell → Option Cell
walked heap Deref cell = option_and_then pointed (heap.cell cell)
walked heap (Off places) cell = moved heap places cell

-- all operations in order
abbrev pub path_cell : Seen → List Op → Option Cell → Option Cell
path_cell heap [] start = start
path_cell heap (op ∷ ops) start = path_cell heap ops (option_and_then (walked heap op) start)

-- the cell that the expression denotes, if it denotes one
abbrev pub cell_denoted : Seen → List Value → Expr → Option Cell
cell_denoted heap regs expr = path_cell heap expr.path (base_cell regs expr.base)

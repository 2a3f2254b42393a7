-- What the instructions of a lowering name is there (docs/SOURCE.md, "Templates").
use Rattle.std.specs.Prelude.{◌≡◌, ℕ, ◌+◌, ◌<◌, ◌≤◌, length, Some, slice_get}
use Rattle.std.specs.List.{AllByRecursion}
use Rattle.asl_code.specs.Operands.{Operand, operands}
use Rattle.asl_code.specs.Operands as operand
use Rattle.asl_code.specs.declared.image.Function as entry
use Rattle.asl_code.specs.declared.instr.Instr.{Instr}
use Rattle.asl_lower.specs.Lowered.{Lowered}
use Rattle.asl_lower.specs.OpenSections.{InBody}

-- the callee is there, and as many registers as it has parameters
pub record HasCallee (l : Lowered) (registers first callee : ℕ) : Type 0 where
  pub function : entry.Function
  pub in_table : slice_get l.functions callee ≡ Some function
  pub arguments : first + function.params ≤ registers

-- what the operand names is there, in a function with so many registers: the class of a `new` is its site, a lock list is
-- that of its section, and a `new` makes a cell
abbrev pub HasOperand : Lowered → ℕ → Operand → Type 0
HasOperand l registers (operand.Register register) = register < registers
HasOperand l registers (operand.Global global) = global < l.globals
HasOperand l registers (operand.Cells cells) = 0 < cells
HasOperand l registers (operand.Class site) = site < l.sites
HasOperand l registers (operand.Callee first callee) = HasCallee l registers first callee
HasOperand l registers (operand.Locks section) = section < length l.sections
HasOperand l registers other = Unit {0}

-- so is what each operand of the instruction names
abbrev pub HasOperands : Lowered → ℕ → Instr → Type 0
HasOperands l registers i = AllByRecursion (HasOperand l registers) (operands i)

-- so it is of each instruction of a body
abbrev pub AreOperandsThere : Lowered → Type 0
AreOperandsThere l =
    (pc number : ℕ) (f : entry.Function) (i : Instr) → InBody l number pc → slice_get l.functions number ≡ Some f → slice_get l.code pc ≡ Some i → HasOperands l f.regs i

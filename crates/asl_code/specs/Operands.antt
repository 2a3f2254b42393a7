-- Which operands each instruction has (docs/INSTRUCTIONS.md). What an operand must be is said by its kind alone: as a number
-- of its type in Spelling, and in an image in Verified and Fits.
use Rattle.std.specs.Prelude.{ℕ, ℤ, List, [], ◌∷◌}
use Rattle.asl_code.specs.declared.instr.Instr.{Instr}
use Rattle.asl_code.specs.declared.instr.Instr.TheVariants as instr

-- an operand of an instruction, by its kind: a register of the frame, an integer, a global, by how many cells an address
-- moves, how many cells a new object has and its class, the place of the whole code that a jump goes to, the function that is
-- called with the first of the registers that it takes, and a lock list
pub data Operand : Type 0 where
  Register : ℕ → Operand
  Integer : ℤ → Operand
  Global : ℕ → Operand
  Offset : ℕ → Operand
  Cells : ℕ → Operand
  Class : ℕ → Operand
  Target : ℕ → Operand
  Callee : ℕ → ℕ → Operand
  Locks : ℕ → Operand

-- the operands of an instruction, in the order in which its row of the table has them
abbrev pub operands : Instr → List Operand
operands (instr.SetInt to value) = Register to ∷ Integer value ∷ []
operands (instr.SetNull to) = Register to ∷ []
operands (instr.Move to from) = Register to ∷ Register from ∷ []
operands (instr.Add to left right) = Register to ∷ Register left ∷ Register right ∷ []
operands (instr.Subtract to left right) = Register to ∷ Register left ∷ Register right ∷ []
operands (instr.LessThan to left right) = Register to ∷ Register left ∷ Register right ∷ []
operands (instr.Equals to left right) = Register to ∷ Register left ∷ Register right ∷ []
operands (instr.GlobalAddress to global) = Register to ∷ Global global ∷ []
operands (instr.FieldAddress to from offset) = Register to ∷ Register from ∷ Offset offset ∷ []
operands (instr.Load to address) = Register to ∷ Register address ∷ []
operands (instr.Store address from) = Register address ∷ Register from ∷ []
operands (instr.New to cells class) = Register to ∷ Cells cells ∷ Class class ∷ []
operands (instr.Jump target) = Target target ∷ []
operands (instr.JumpIfZero test target) = Register test ∷ Target target ∷ []
operands (instr.Call to first function) = Register to ∷ Callee first function ∷ []
operands (instr.Return from) = Register from ∷ []
operands (instr.Output from) = Register from ∷ []
operands (instr.Acquire list) = Locks list ∷ []
operands instr.Release = []

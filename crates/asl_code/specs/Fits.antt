-- What a verified image is, read as facts: what it has, and what holds of the instruction at each place of its code
-- (docs/FORMATS.md, "Rules of an image"). The law verified_images_fit says that these images are the verified ones. See
-- docs/INSTRUCTIONS.md.
use Rattle.std.specs.Prelude.{◌≡◌, ℕ, ◌+◌, ◌<◌, ◌≤◌, false, List, length, Some, slice_get, All}
use Rattle.std.specs.List.{AllByRecursion}
use Rattle.asl_code.specs.Bodies.{first_of, total_len}
use Rattle.asl_code.specs.Operands.{Operand, operands}
use Rattle.asl_code.specs.Operands as operand
use Rattle.asl_code.specs.Verified.{is_end}
use Rattle.asl_code.specs.Versions.{IsVersion, most_locks}
use Rattle.asl_code.specs.declared.image.Function.{Function}
use Rattle.asl_code.specs.declared.image.Image.{Image}
use Rattle.asl_code.specs.declared.instr.Instr.{Instr}
use Rattle.asl_code.specs.declared.lock.Base.{Base}
use Rattle.asl_code.specs.declared.lock.Base.TheVariants.{Reg, Global}
use Rattle.asl_code.specs.declared.lock.Lock.{Lock}
use Rattle.asl_code.specs.declared.lock.Lock.TheVariants as lock

-- the place lies in the body of the function of this number, which is this one
pub record LiesIn (i : Image) (number pc : ℕ) (f : Function) : Type 0 where
  pub function : slice_get i.functions number ≡ Some f
  pub low : first_of i.functions number ≤ pc
  pub high : pc < first_of i.functions number + f.len

-- the function has an instruction, a register for each parameter, and no more than the limits
pub record FitsFunction (f : Function) : Type 0 where
  pub some : 0 < f.len
  pub params : f.params ≤ f.regs
  pub few_params : f.params ≤ 4
  pub few_regs : f.regs ≤ 64

-- the global that the base names is there
abbrev pub HasBase : Image → Base → Type 0
HasBase i (Reg register) = Unit {0}
HasBase i (Global global) = global < length i.globals

-- the class or the global that the lock names is there
abbrev pub HasLock : Image → Lock → Type 0
HasLock i (lock.Root effect) = Unit {0}
HasLock i (lock.Class class effect) = class < i.classes
HasLock i (lock.Expr expr effect) = HasBase i expr.base

-- what the base names is there: the function has the register, or the image the global
abbrev pub FitsBase : Image → Function → Base → Type 0
FitsBase i f (Reg register) = register < f.regs
FitsBase i f (Global global) = global < length i.globals

-- what the lock names is there, where the function asks for it
abbrev pub FitsLock : Image → Function → Lock → Type 0
FitsLock i f (lock.Root effect) = Unit {0}
FitsLock i f (lock.Class class effect) = class < i.classes
FitsLock i f (lock.Expr expr effect) = FitsBase i f expr.base

-- what the operand names is there, in the function of this number: a jump stays in the body, a call's arguments are
-- registers, and a new object has a cell
abbrev pub FitsOperand : Image → ℕ → Function → Operand → Type 0
FitsOperand i n f (operand.Register register) = register < f.regs
FitsOperand i n f (operand.Integer value) = Unit {0}
FitsOperand i n f (operand.Global global) = global < length i.globals
FitsOperand i n f (operand.Offset offset) = Unit {0}
FitsOperand i n f (operand.Cells cells) = 0 < cells
FitsOperand i n f (operand.Class class) = class < i.classes
FitsOperand i n f (operand.Target target) = LiesIn i n target f
FitsOperand i n f (operand.Callee first function) = (callee : Function) × (slice_get i.functions function ≡ Some callee) × (first + callee.params ≤ f.regs)
FitsOperand i n f (operand.Locks list) = (locks : List Lock) × (slice_get i.lists list ≡ Some locks) × All (FitsLock i f) locks

-- so is what each operand of the instruction names
abbrev pub FitsInstr : Image → ℕ → Function → Instr → Type 0
FitsInstr i n f instr = AllByRecursion (FitsOperand i n f) (operands instr)

-- the facts of a verified image: the version is 1 or 2, the counts are within their limits, what the tables name is
-- there, the bodies are the code, each instruction fits its body, and after an instruction that is not an end of a body the
-- body continues
pub record FitsImage (i : Image) : Type 0 where
  pub version : IsVersion i.version
  pub few_classes : i.classes ≤ 1024
  pub few_globals : length i.globals ≤ 1024
  pub few_functions : length i.functions ≤ 256
  pub few_instrs : length i.code ≤ 65535
  pub few_lists : length i.lists ≤ 1024
  pub global_fits : (n class : ℕ) → slice_get i.globals n ≡ Some class → class < i.classes
  pub few_locks : (n : ℕ) (locks : List Lock) → slice_get i.lists n ≡ Some locks → length locks ≤ most_locks i.version
  pub list_fits : (n : ℕ) (locks : List Lock) → slice_get i.lists n ≡ Some locks → All (HasLock i) locks
  pub entry : (f : Function) × (slice_get i.functions i.start ≡ Some f) × (f.params ≡ 1)
  pub function_fits : (n : ℕ) (f : Function) → slice_get i.functions n ≡ Some f → FitsFunction f
  pub total : total_len i.functions ≡ length i.code
  pub instr_fits : (n pc : ℕ) (f : Function) (instr : Instr) → LiesIn i n pc f → slice_get i.code pc ≡ Some instr → FitsInstr i n f instr
  pub goes_on : (n pc : ℕ) (f : Function) (instr : Instr) → LiesIn i n pc f → slice_get i.code pc ≡ Some instr → is_end instr ≡ false → LiesIn i n (pc + 1) f

-- Which images may run. Each fault of the verifier is a test of the image, and an image is verified where no fault
-- applies (docs/FORMATS.md, "Rules of an image").
use Rattle.std.specs.Prelude.{◌≡◌, ℕ, ◌+◌, ◌-◌, ◌<◌, ◌≤◌, ◌⊎◌, Bool, true, false, not, ◌&&◌, ◌==◌, nat_lt, nat_le, IsTrue, List, length, Option, Some, slice_get}
use Rattle.std.specs.List.{list_all}
use Rattle.std.specs.Option.{option_map_or}
use Rattle.asl_code.specs.Bodies.{Body, bodies_from, total_len, is_inside, body_of}
use Rattle.asl_code.specs.Operands.{Operand, operands}
use Rattle.asl_code.specs.Operands as operand
use Rattle.asl_code.specs.Versions.{limits_of}
use Rattle.asl_code.specs.declared.image.Function.{Function}
use Rattle.asl_code.specs.declared.image.Image.{Image}
use Rattle.asl_code.specs.declared.instr.Instr.{Instr}
use Rattle.asl_code.specs.declared.instr.Instr.TheVariants.{Jump, Return}
use Rattle.asl_code.specs.declared.image_limits.Limits.{Limits}
use Rattle.asl_code.specs.declared.lock.Base.{Base}
use Rattle.asl_code.specs.declared.lock.Base.TheVariants.{Reg, Global}
use Rattle.asl_code.specs.declared.lock.Lock.{Lock}
use Rattle.asl_code.specs.declared.lock.Lock.TheVariants as lock
use Rattle.asl_code.specs.declared.fault.VerifyFault.{VerifyFault}
use Rattle.asl_code.specs.declared.fault.VerifyFault.TheVariants as fault

-- whether the function has at most 4 parameters and 64 registers
abbrev pub keeps_function_limits : Function → Bool
keeps_function_limits f = nat_le f.params 4 && nat_le f.regs 64

-- whether the list has no more locks than its image's version sets
abbrev pub keeps_list_limit : Limits → List Lock → Bool
keeps_list_limit limits locks = nat_le (length locks) limits.locks

-- whether no count is over its limit, under what the version sets
abbrev pub keeps_counts : Limits → Image → Bool
keeps_counts limits i =
    nat_le i.classes 1024
    && nat_le (length i.globals) 1024
    && nat_le (length i.functions) 256
    && nat_le (length i.code) 65535
    && nat_le (length i.lists) 1024
    && list_all keeps_function_limits i.functions
    && list_all (keeps_list_limit limits) i.lists

-- whether there is the image's version, and no count is over its limit
abbrev pub keeps_limits : Image → Bool
keeps_limits i = option_map_or (λ limits. keeps_counts limits i) (limits_of i.version) false

-- whether the global that the base names is there
abbrev pub has_base : Image → Base → Bool
has_base i (Reg r) = true
has_base i (Global g) = nat_lt g (length i.globals)

-- whether the class or the global that the lock names is there
abbrev pub has_lock : Image → Lock → Bool
has_lock i (lock.Root effect) = true
has_lock i (lock.Class class effect) = nat_lt class i.classes
has_lock i (lock.Expr expr effect) = has_base i expr.base

-- whether the classes of all globals, and the classes and globals of all locks are there
abbrev pub has_tables : Image → Bool
has_tables i = list_all (λ class. nat_lt class i.classes) i.globals && list_all (list_all (has_lock i)) i.lists

-- whether the entry function is there and has exactly one parameter
abbrev pub has_entry : Image → Bool
has_entry i = option_map_or (λ (f : Function). f.params == 1) (slice_get i.functions i.start) false

-- whether the function has an instruction, and a register for each parameter
abbrev pub has_range : Function → Bool
has_range f = nat_lt 0 f.len && nat_le f.params f.regs

-- whether this is so of all functions, and their bodies together are the code
abbrev pub has_ranges : Image → Bool
has_ranges i = list_all has_range i.functions && total_len i.functions == length i.code

-- whether a function may end with the instruction: it returns or jumps
abbrev pub is_end : Instr → Bool
is_end (Return from) = true
is_end (Jump target) = true
is_end instr = false

-- whether the last instruction of the body is one
abbrev pub has_end : List Instr → Body → Bool
has_end code b = option_map_or is_end (slice_get code (b.first + b.function.len - 1)) false

-- whether this is so of all bodies
abbrev pub has_ends : Image → Bool
has_ends i = list_all (has_end i.code) (bodies_from 0 i.functions)

-- whether the place lies in the body, or the called function is there
abbrev pub target_there : Image → Body → Operand → Bool
target_there i b (operand.Target target) = is_inside target b
target_there i b (operand.Callee first function) = nat_lt function (length i.functions)
target_there i b other = true

-- whether the instruction's jump stays in the body, and the function that it calls is there
abbrev pub has_target : Image → Body → Instr → Bool
has_target i b instr = list_all (target_there i b) (operands instr)

-- whether the function has the register
abbrev pub has_register : Function → ℕ → Bool
has_register f register = nat_lt register f.regs

-- whether the function has the registers from this one on that the called function takes
abbrev pub has_arguments : Image → Function → ℕ → ℕ → Bool
has_arguments i f first function =
    option_map_or (λ (callee : Function). nat_le (first + callee.params) f.regs) (slice_get i.functions function) true

-- whether the function has the register, or those of the call
abbrev pub register_there : Image → Function → Operand → Bool
register_there i f (operand.Register register) = has_register f register
register_there i f (operand.Callee first function) = has_arguments i f first function
register_there i f other = true

-- whether the function has the registers of the instruction
abbrev pub has_registers : Image → Function → Instr → Bool
has_registers i f instr = list_all (register_there i f) (operands instr)

-- whether the global, class or list is there, and the new object has a cell
abbrev pub entry_there : Image → Operand → Bool
entry_there i (operand.Global global) = nat_lt global (length i.globals)
entry_there i (operand.Cells cells) = nat_lt 0 cells
entry_there i (operand.Class class) = nat_lt class i.classes
entry_there i (operand.Locks list) = nat_lt list (length i.lists)
entry_there i other = true

-- whether the global, class or list that the instruction names is there, and a new object has a cell
abbrev pub has_operands : Image → Instr → Bool
has_operands i instr = list_all (entry_there i) (operands instr)

-- whether the function has the base, where it is a register
abbrev pub has_base_register : Function → Base → Bool
has_base_register f (Reg r) = has_register f r
has_base_register f (Global g) = true

-- whether the function has the register on which the lock's expression is based, if it is based on one
abbrev pub has_lock_base : Function → Lock → Bool
has_lock_base f (lock.Root effect) = true
has_lock_base f (lock.Class class effect) = true
has_lock_base f (lock.Expr expr effect) = has_base_register f expr.base

-- whether this is so of all locks of the list
abbrev pub bases_there : Image → Function → Operand → Bool
bases_there i f (operand.Locks list) = option_map_or (list_all (has_lock_base f)) (slice_get i.lists list) true
bases_there i f other = true

-- whether this is so of all locks of the list that an `acq` names
abbrev pub has_list_bases : Image → Function → Instr → Bool
has_list_bases i f instr = list_all (bases_there i f) (operands instr)

-- whether both are there, and the instruction does not pass the test in the body
abbrev pub is_failure : (Body → Instr → Bool) → Option Body → Option Instr → Bool
is_failure passes (Some b) (Some instr) = not (passes b instr)
is_failure passes b instr = false

-- whether an instruction stands at the place and does not pass the test in its body
abbrev pub fails_at : (Body → Instr → Bool) → Image → ℕ → Bool
fails_at passes i pc = is_failure passes (body_of i pc) (slice_get i.code pc)

-- whether the fault applies, at its place where it names one
abbrev pub applies : Image → VerifyFault → Bool
applies i fault.Limit = not (keeps_limits i)
applies i fault.Table = not (has_tables i)
applies i fault.NoEntry = not (has_entry i)
applies i fault.FunctionRange = not (has_ranges i)
applies i fault.FallsOut = not (has_ends i)
applies i (fault.Target pc) = fails_at (has_target i) i pc
applies i (fault.Register pc) = fails_at (λ b. has_registers i b.function) i pc
applies i (fault.Operand pc) = fails_at (λ b. has_operands i) i pc
applies i (fault.ListBase pc) = fails_at (λ b. has_list_bases i b.function) i pc

-- the line of the verifier's table that the fault is in
abbrev pub line_of : VerifyFault → ℕ
line_of fault.Limit = 1
line_of fault.Table = 2
line_of fault.NoEntry = 3
line_of fault.FunctionRange = 4
line_of fault.FallsOut = 5
line_of (fault.Target pc) = 6
line_of (fault.Register pc) = 7
line_of (fault.Operand pc) = 8
line_of (fault.ListBase pc) = 9

-- the place that the fault names, and 0 where it names none
abbrev pub place_of : VerifyFault → ℕ
place_of (fault.Target pc) = pc
place_of (fault.Register pc) = pc
place_of (fault.Operand pc) = pc
place_of (fault.ListBase pc) = pc
place_of other = 0

-- whether the first fault is in an earlier line, or in the same line at no later place
abbrev pub ComesFirst : VerifyFault → VerifyFault → Type 0
ComesFirst f g = (line_of f < line_of g) ⊎ ((line_of f ≡ line_of g) × (place_of f ≤ place_of g))

-- the fault that the verifier names: it applies, and comes first of all that apply
pub record IsAnswer (i : Image) (fault : VerifyFault) : Type 0 where
  pub holds : IsTrue (applies i fault)
  pub least : (other : VerifyFault) → IsTrue (applies i other) → ComesFirst fault other

-- the image may run: no fault applies
abbrev pub IsVerified : Image → Type 0
IsVerified i = (fault : VerifyFault) → applies i fault ≡ false

-- The frames that calls begin and returns end (docs/INSTRUCTIONS.md).
use Rattle.std.specs.Prelude.{ℕ, ◌+◌, ◌-◌, ◌<◌, List, [], ◌∷◌, ◌++◌, length, take, drop, replicate, Option, None, Some, slice_get, slice_set, unwrap_or, IsSomeAnd, pos}
use Rattle.asl_code.specs.declared.image.Image.{Image}
use Rattle.asl_code.specs.Bodies.{first_of}
use Rattle.asl_code.specs.declared.image.Function.{Function}
use Rattle.asl_code.specs.declared.value.Value.{Value}
use Rattle.asl_code.specs.declared.value.Value.TheVariants.{Int}
use Rattle.asl_machine.specs.State.{Frame, Activity}

-- the function of this number
abbrev pub function_of : Image → ℕ → Function
function_of image number = unwrap_or (slice_get image.functions number) (record { params = 0; regs = 0; len = 0 })

-- the registers of a new frame: the arguments, and Int 0 in those that are no parameters
abbrev pub first_registers : List Value → ℕ → List Value
first_registers arguments count = arguments ++ replicate (count - length arguments) (Int (pos 0))

-- a new frame of a function with these arguments, at its first instruction
abbrev pub first_frame : Image → ℕ → List Value → Option ℕ → Frame
first_frame image number arguments result =
    record {
      function = number;
      pc = first_of image.functions number;
      regs = first_registers arguments (function_of image number).regs;
      result = result;
    }

-- the values of so many registers from this one on
abbrev pub values_from : List Value → ℕ → ℕ → List Value
values_from regs first count = take count (drop first regs)

-- how many frames the thread has
abbrev pub frame_count : Activity → ℕ
frame_count a = length a.below + 1

-- the frame with the value in the register
abbrev pub with_register : ℕ → Value → Frame → Frame
with_register register value f = record { function = f.function; pc = f.pc; regs = slice_set f.regs register value; result = f.result }

-- the frame with the value in the register that awaits it, if one does
abbrev pub with_result : Option ℕ → Value → Frame → Frame
with_result None value f = f
with_result (Some register) value f = with_register register value f

-- if a frame waits below, it has the register that awaits the value of the frame above
abbrev pub IsAwaited : Option ℕ → List Frame → Type 0
IsAwaited result [] = Unit {0}
IsAwaited result (caller ∷ others) = IsSomeAnd result (λ register. register < length caller.regs)

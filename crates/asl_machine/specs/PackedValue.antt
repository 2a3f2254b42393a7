-- Machinery of the proofs, not of the promise: how a word of 64 bits keeps a value (docs/INSTRUCTIONS.md, "State").
use Rattle.std.specs.Prelude.{Option, None, Some, ℤ, ℕ, zero, suc, ◌+◌, ◌*◌, ◌^◌, ◌/◌, ◌%◌}
use Rattle.std.specs.Int.{w32, cast_unsigned, cast_signed}
use Rattle.asl_code.specs.declared.value.Value.{Value}
use Rattle.asl_code.specs.declared.value.Value.TheVariants.{Int, Null, Addr}

-- the bits of a value: of which kind it is in the upper half, the rest in the lower
abbrev pub bits_of : Value → ℕ
bits_of (Int number) = cast_unsigned w32 number
bits_of Null = 2 ^ 32
bits_of (Addr object offset) = 2 * 2 ^ 32 + object * 256 + offset

-- the value of this kind in the lower half of the bits
abbrev pub value_of_kind : ℕ → ℕ → Value
value_of_kind zero bits = Int (cast_signed w32 (bits % 2 ^ 32))
value_of_kind (suc zero) bits = Null
value_of_kind (suc (suc kind)) bits = Addr (bits / 256 % 2 ^ 16) (bits % 256)

-- the value of the bits
abbrev pub value_of : ℕ → Value
value_of bits = value_of_kind (bits / 2 ^ 32) bits

-- the integer that a value is, if it is one
abbrev pub integer_of : Value → Option ℤ
integer_of (Int number) = Some number
integer_of Null = None
integer_of (Addr object offset) = None

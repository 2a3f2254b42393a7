-- Machinery of the proofs, not of the promise: how the front of some bytes is read as a value, computed
-- (docs/FORMATS.md, "Values"). The lemmas of proofs/Values lead from here to the relations of specs/Spelling, which public
-- calls cite.
use Rattle.std.specs.Prelude.{ℕ, zero, suc, nat_lt, if◌then◌else◌, List, [], ◌∷◌, length, take, slice_index, Result, Ok, Err}
use Rattle.std.specs.Int.{w16, w32, from_be_bytes, cast_signed}
use Rattle.asl_code.specs.declared.value.Value.{Value}
use Rattle.asl_code.specs.declared.value.Value.TheVariants.{Int, Null, Addr}
use Rattle.asl_code.specs.declared.value_bytes.ValueFault.{ValueFault}
use Rattle.asl_code.specs.declared.value_bytes.ValueFault.TheVariants.{Short, Bad}

-- the integer after its kind
abbrev pub int_at : List ℕ → Result (Value × ℕ) ValueFault
int_at bytes = if nat_lt (length bytes) 4 then Err Short else Ok (Int (cast_signed w32 (from_be_bytes w32 (take 4 bytes))), 5)

-- the cell after its kind
abbrev pub address_at : List ℕ → Result (Value × ℕ) ValueFault
address_at bytes = if nat_lt (length bytes) 3 then Err Short else Ok (Addr (from_be_bytes w16 (take 2 bytes)) (slice_index bytes 2), 4)

-- the value at the front of the bytes, and how many bytes it has
abbrev pub value_at : List ℕ → Result (Value × ℕ) ValueFault
value_at [] = Err Short
value_at (zero ∷ rest) = int_at rest
value_at (suc zero ∷ rest) = Ok (Null, 1)
value_at (suc (suc zero) ∷ rest) = address_at rest
value_at (suc (suc (suc kind)) ∷ rest) = Err Bad

-- Machinery of the proofs, not of the promise: how many bytes one instruction adds to the objects, about (src/spacing.rt).
use Rattle.std.specs.Prelude.{◌+◌, ◌*◌, ℕ, max, List, [], ◌∷◌}
use Rattle.asl_code.specs.declared.instr.Instr.{Instr}
use Rattle.asl_code.specs.declared.instr.Instr.TheVariants as instr

-- how many bytes the object takes that the instruction makes, about
abbrev pub made_bytes : Instr → ℕ
made_bytes (instr.New to cells class) = 48 + cells * 8
made_bytes i = 0

-- the most bytes that one of the instructions makes
abbrev pub most_made : List Instr → ℕ
most_made [] = 0
most_made (i ∷ is) = max (made_bytes i) (most_made is)

-- Machinery of the proofs, not of the promise: what the verifier looks for in the code, one line of its table after the
-- other (docs/FORMATS.md, "Rules of an image"). What the verifier answers is in specs/Verified. See
-- docs/INSTRUCTIONS.md.
use Rattle.std.specs.Prelude.{◌≡◌, ℕ, ◌≤◌, Bool, true, false, Option, MatchOption}
use Rattle.asl_code.specs.Bodies.{Body}
use Rattle.asl_code.specs.Verified.{has_target, has_registers, has_operands, has_list_bases, fails_at}
use Rattle.asl_code.specs.declared.image.Function.{Function}
use Rattle.asl_code.specs.declared.image.Image.{Image}
use Rattle.asl_code.specs.declared.instr.Instr.{Instr}
use Rattle.asl_code.specs.declared.places.Rule.{Rule}
use Rattle.asl_code.specs.declared.places.Rule.TheVariants.{Target, Register, Operand, ListBase}

-- the test of an instruction in its body that the line makes
abbrev pub test_of : Rule → Image → Body → Instr → Bool
test_of Target i = has_target i
test_of Register i = λ b. has_registers i b.function
test_of Operand i = λ b. has_operands i
test_of ListBase i = λ b. has_list_bases i b.function

-- the body of a function that begins at this place
abbrev pub body_at : ℕ → Function → Body
body_at first f = record { first = first; function = f }

-- the lowest place whose instruction does not pass, and none where all pass
abbrev pub IsLowestFailing : (Body → Instr → Bool) → Image → Option ℕ → Type 0
IsLowestFailing passes i place =
    MatchOption place
    ((pc : ℕ) → fails_at passes i pc ≡ false)
    (λ pc. (fails_at passes i pc ≡ true) × ((other : ℕ) → fails_at passes i other ≡ true → pc ≤ other))

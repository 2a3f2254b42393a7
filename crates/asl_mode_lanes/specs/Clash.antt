-- Machinery: the bits of a code that show that its mode does not go with another (docs/LOCKS.md, "Modes").
use Rattle.std.specs.Prelude.{ℕ, ◌==◌, Bool, not, bit_and}
use Rattle.asl_mode_lanes.specs.declared.mode.Mode.{Mode}
use Rattle.asl_mode_lanes.specs.declared.mode.Mode.TheVariants.{NL, IS, IX, S, SIX, X}

-- the bits of which a code has one where its mode does not go with this one: 8 for 1, 4 for 2, 2 for 4 and 1 for 8
abbrev pub against : Mode → ℕ
against NL = 0
against IS = 8
against IX = 12
against S = 10
against SIX = 14
against X = 15

-- whether a code has one of these bits
abbrev pub clashes : ℕ → ℕ → Bool
clashes bits code = not (bit_and code bits == 0)

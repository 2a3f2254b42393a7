-- The lines of a text (docs/PROOFS.md, "The map").
use Rattle.std.specs.Prelude.{ℕ, List, [], ◌∷◌, if◌then◌else◌, ◌==◌, ◌+◌}

-- the line after a byte of a line
abbrev pub line_after : ℕ → ℕ → ℕ
line_after line byte = if byte == 10 then line + 1 else line

-- the line of each byte of a text and of its end, where it begins in this one
abbrev pub lines_from : ℕ → List ℕ → List ℕ
lines_from line [] = line ∷ []
lines_from line (byte ∷ bytes) = line ∷ lines_from (line_after line byte) bytes

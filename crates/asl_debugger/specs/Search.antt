-- Machinery of the proofs, not of the promise: the last stop within a stretch of a journal, for private
-- functions.
use Rattle.std.specs.Prelude.{◌<◌, ◌≤◌, ℕ, Option, None, Some}
use Rattle.asl_debugger.specs.Halts.{IsHalt}
use Rattle.asl_debugger.specs.Session.{Session}

-- the greatest stop from the start on and before the other position, if there is one
abbrev pub IsFound : Session → ℕ → ℕ → Option ℕ → Type 0
IsFound s start until None = (j : ℕ) → start ≤ j → j < until → ¬ IsHalt s j
IsFound s start until (Some k) = (start ≤ k) × (k < until) × IsHalt s k × ((j : ℕ) → k < j → j < until → ¬ IsHalt s j)

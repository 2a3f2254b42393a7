use Rattle.std.proofs.Common.{◌≡◌, ◌≤◌, ℕ, length, map, string_bytes, Some}
use Rattle.std.specs.Prelude.{slice_get}
use Rattle.clap.specs.Words.{Text}
use Rattle.asl_command_line.specs.Apart.{IsPlain}
use Rattle.asl_command_line.proofs.apart.front_of.Given as goal

abbrev pub invariant-loop-from : goal.invariant-loop-from
invariant-loop-from l =
    (1 ≤ l.from) × (l.from ≤ length l.words)
    × ((i : ℕ) (word : Text) → l.from ≤ i → slice_get (map string_bytes l.words) i ≡ Some word → IsPlain word)

abbrev pub decreases-loop-from : goal.decreases-loop-from
decreases-loop-from l = l.from

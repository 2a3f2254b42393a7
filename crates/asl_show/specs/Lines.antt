-- Lines of numbered things, one after the other.
use Rattle.std.specs.Prelude.{ℕ, zero, suc, List, [], ◌++◌}

-- the lines of so many numbers, from the first one on
unfoldable pub lines_from : (ℕ → List ℕ) → ℕ → ℕ → List ℕ
lines_from line first zero = []
lines_from line first (suc count) = line first ++ lines_from line (suc first) count

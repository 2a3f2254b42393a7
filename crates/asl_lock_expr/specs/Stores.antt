-- The classes that each function may store to, as lists (docs/ANALYSIS.md, "Written classes").
use Rattle.std.specs.Prelude.{ℕ, Bool, List, [], ◌==◌, slice_get, unwrap_or}
use Rattle.std.specs.List.{list_any}

-- whether the class is in the function's list
abbrev pub stores : List (List ℕ) → ℕ → ℕ → Bool
stores lists function class = list_any (λ x. x == class) (unwrap_or (slice_get lists function) [])

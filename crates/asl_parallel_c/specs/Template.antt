-- Templates: texts with places for numbers.
use Rattle.std.specs.Prelude.{ℕ, zero, suc, ◌+◌, ◌==◌, List, [], ◌∷◌, ◌++◌, drop, if◌then◌else◌}
use Rattle.std.specs.Fmt.{decimal}

-- the decimal digits of the first number, if there is one
abbrev pub first_digits : List ℕ → List ℕ
first_digits [] = []
first_digits (n ∷ ns) = decimal n

-- the template, each `@` (64) of it replaced by the next of the numbers
unfoldable pub filled : List ℕ → List ℕ → List ℕ
filled [] ns = []
filled (b ∷ bs) ns = if b == 64 then first_digits ns ++ filled bs (drop 1 ns) else b ∷ filled bs ns

-- the template for each of so many numbers, from the first on: each `@` of it is replaced by the number
abbrev pub repeated : List ℕ → ℕ → ℕ → List ℕ
repeated template first zero = []
repeated template first (suc count) = filled template (first ∷ first ∷ []) ++ repeated template (first + 1) count

-- A set of numbers below a length, as the list that says of each of these whether it is one of the set.
use Rattle.std.specs.Prelude.{◌≡◌, ◌<◌, ℕ, ◌+◌, Bool, true, false, List, [], ◌∷◌, Some, slice_get}
use Rattle.std.specs.List.{AllPairs}

-- the number is one of the set
abbrev pub IsIn : List Bool → ℕ → Type 0
IsIn set number = slice_get set number ≡ Some true

-- each number is below those after it
abbrev pub IsRising : List ℕ → Type 0
IsRising numbers = AllPairs (λ a b. a < b) numbers

-- the numbers of a set whose first place stands for `first`
abbrev pub members_from : ℕ → List Bool → List ℕ
members_from first [] = []
members_from first (true ∷ set) = first ∷ members_from (first + 1) set
members_from first (false ∷ set) = members_from (first + 1) set

-- the numbers of the set, in their order
abbrev pub members_of : List Bool → List ℕ
members_of set = members_from 0 set

-- Disjoint sets as src/sets.rt keeps them: each member has a parent, which is itself or below it, and the set's first member is its
-- own parent.
use Rattle.std.specs.Prelude.{ℕ, zero, suc, ◌<◌, ◌≤◌, ◌==◌, if◌then◌else◌, List, length, map, slice_index}
use Rattle.std.specs.List.{range_with_len}

-- what is above a member, so many parents up
abbrev pub ancestor : List ℕ → ℕ → ℕ → ℕ
ancestor parents zero m = m
ancestor parents (suc k) m = ancestor parents k (slice_index parents m)

-- the first member of the set of each member
abbrev pub firsts_of : List ℕ → List ℕ
firsts_of parents = map (λ m. ancestor parents m m) (range_with_len 0 (length parents))

-- no parent is above its member
abbrev pub IsForest : List ℕ → Type 0
IsForest parents = (m : ℕ) → m < length parents → slice_index parents m ≤ m

-- the first member of a set, where the set of `gone` has joined that of `kept`
abbrev pub joined : ℕ → ℕ → ℕ → ℕ
joined kept gone first = if first == gone then kept else first

-- Machinery of the proofs, not of the promise: what is found at points and not followed yet (src/fresh.rt).
use Rattle.std.specs.Prelude.{◌≡◌, ◌≢◌, ◌↔◌, ◌⊎◌, ◌+◌, ℕ, if◌then◌else◌, Bool, false, List, [], ◌∷◌, Option, Some, None, Box, map, slice_get, unwrap_or}
use Rattle.std.specs.Global.{Global}
use Rattle.asl_lane_sets.specs.NumberSet.{IsIn}
use Rattle.asl_backward_flow.specs.declared.fresh.Fresh.{Fresh}

-- the set that is kept, where none is kept for an empty one
abbrev pub set_of : Option (Box (List Bool) Global) → List Bool
set_of None = []
set_of (Some b) = b.value

-- what is kept at a place
abbrev pub kept_at : Fresh → ℕ → List Bool
kept_at f k = unwrap_or (slice_get (map set_of f.sets.items) k) []

-- the place is one of those that were followed
abbrev pub was_followed : Fresh → ℕ → Bool
was_followed f k = unwrap_or (slice_get f.followed k) false

-- what is not followed yet at a place where this is found; the same from a place on
abbrev pub open_at : Fresh → ℕ → List Bool → List Bool
open_at f k set = if was_followed f k then kept_at f k else set

-- what is not followed yet at each place from `k` on, where these sets are found there
abbrev pub open_from : Fresh → ℕ → List (List Bool) → List (List Bool)
open_from f k [] = []
open_from f k (set ∷ sets) = open_at f k set ∷ open_from f (k + 1) sets

-- these numbers are kept at a place now, and all else stays
pub record IsKept (old new : Fresh) (place : ℕ) (numbers : ℕ → Type 0) : Type 0 where
  pub followed : new.followed ≡ old.followed
  pub rest : (k : ℕ) → k ≢ place → kept_at new k ≡ kept_at old k
  pub here : (n : ℕ) → IsIn (kept_at new place) n ↔ numbers n

-- what is not followed yet at a place, where this is found, was given, and is followed
pub record IsGiven (old new : Fresh) (place : ℕ) (found given : List Bool) : Type 0 where
  pub again : IsIn old.followed place → given ≡ kept_at old place
  pub first : ¬ IsIn old.followed place → given ≡ found
  pub followed : (k : ℕ) → IsIn new.followed k ↔ (IsIn old.followed k ⊎ (k ≡ place))
  pub rest : (k : ℕ) → k ≢ place → kept_at new k ≡ kept_at old k
  pub none : kept_at new place ≡ []

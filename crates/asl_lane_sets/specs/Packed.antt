-- Machinery of the proofs, not of the promise: sets as lanes of 64 bits (src/bits.rt, src/lanes.rt).
use Rattle.std.specs.Prelude.{◌≡◌, ◌≢◌, ◌↔◌, ◌+◌, ◌-◌, ◌*◌, ◌/◌, ◌%◌, ◌^◌, ◌<◌, ◌≤◌, ◌==◌, ℕ, Bool, true, false, List, length, map, slice_index, bit_or}
use Rattle.std.specs.Int.{bit_at}
use Rattle.std.specs.List.{filter, range_with_len}

-- numbers of 64 bits
abbrev pub AreLanes : List ℕ → Type 0
AreLanes lanes = (k : ℕ) → slice_index lanes k < 2 ^ 64

-- whether a bit of a lane is 1, and whether the bit of a number is 1 in the lanes
abbrev pub has_bit : ℕ → ℕ → Bool
has_bit lane bit = bit_at lane bit == 1

-- whether the bit of a number is 1 in the lanes, of which each has 64 bits
abbrev pub is_set : List ℕ → ℕ → Bool
is_set lanes number = has_bit (slice_index lanes (number / 64)) (number % 64)

-- the set of the numbers below a length whose bits are 1
abbrev pub told : ℕ → List ℕ → List Bool
told len lanes = map (is_set lanes) (range_with_len 0 len)

-- whole blocks of four lanes, one at least, as few as have the length, and no bit from the length on is 1; `fits`: the length is one that
-- a usize can be
pub record IsPacked (len : ℕ) (lanes : List ℕ) : Type 0 where
  pub fits : len < 2 ^ 64
  pub count : length lanes ≡ 4 * ((len - 1) / 256 + 1)
  pub clear : (number : ℕ) → len ≤ number → is_set lanes number ≡ false

-- four lanes, and whole blocks of four after them
pub record AreWholeBlocks (first more : List ℕ) : Type 0 where
  pub four : length first ≡ 4
  pub blocks : length more % 4 ≡ 0

-- the numbers from `first` on that the lowest bits of a lane stand for
abbrev pub ones : ℕ → ℕ → ℕ → List ℕ
ones lane first count = map (λ bit. first + bit) (filter (has_bit lane) (range_with_len 0 count))

-- the third lanes have the bits of both others
abbrev pub AreJoined : List ℕ → List ℕ → List ℕ → Type 0
AreJoined a b c = (length c ≡ length a) × ((k : ℕ) → slice_index c k ≡ bit_or (slice_index a k) (slice_index b k))

-- the second lane's bits are taken away from the first
abbrev pub IsCleared : ℕ → ℕ → ℕ → Type 0
IsCleared a b c = (bit : ℕ) → (has_bit c bit ≡ true) ↔ ((has_bit a bit ≡ true) × (has_bit b bit ≡ false))

-- the same lane by lane
abbrev pub AreCleared : List ℕ → List ℕ → List ℕ → Type 0
AreCleared a b c = (length c ≡ length a) × ((k : ℕ) → IsCleared (slice_index a k) (slice_index b k) (slice_index c k))

-- the same of the lanes below a place, and the others stay
pub record ClearedBelow (place : ℕ) (old from new : List ℕ) : Type 0 where
  pub count : length new ≡ length old
  pub below : (k : ℕ) → k < place → IsCleared (slice_index old k) (slice_index from k) (slice_index new k)
  pub above : (k : ℕ) → place ≤ k → slice_index new k ≡ slice_index old k

-- the lanes differ somewhere
pub record Differ (a b : List ℕ) : Type 0 where
  pub place : ℕ
  pub different : slice_index a place ≢ slice_index b place

-- four lanes from a place on are joined, and the others stay
pub record JoinsAt (at : ℕ) (old from new : List ℕ) : Type 0 where
  pub count : length new ≡ length old
  pub here : (k : ℕ) → at ≤ k → k < at + 4 → slice_index new k ≡ bit_or (slice_index old k) (slice_index from k)
  pub below : (k : ℕ) → k < at → slice_index new k ≡ slice_index old k
  pub above : (k : ℕ) → at + 4 ≤ k → slice_index new k ≡ slice_index old k

-- the lanes below a place are joined, and the others stay: what `merge_lanes` has done when it comes to that place
pub record JoinedBelow (place : ℕ) (old from new : List ℕ) : Type 0 where
  pub count : length new ≡ length old
  pub below : (k : ℕ) → k < place → slice_index new k ≡ bit_or (slice_index old k) (slice_index from k)
  pub above : (k : ℕ) → place ≤ k → slice_index new k ≡ slice_index old k

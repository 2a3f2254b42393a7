-- Masks of the codes that pass a test.
use Rattle.std.proofs.Common.{◌≡◌, ℕ, ◌+◌, ◌*◌, ◌%◌, ◌≢◌, bit_and, ◌^◌, ◌<◌, ◌≤◌, ◌↔◌, Bool, true, false, cond, List, [], ◌∷◌, ◌++◌, length, take, map as each, zero, suc, slice_index, get_or, IsBitSet, arith, refl, sym, ap, ◌∙◌, subst, inl, inr}
use Rattle.std.specs.Simd.Lanes.{mask_l, chunk}
use Rattle.std.specs.Int.{bit_at, bit_not, w128}
use Rattle.std.specs.Int.Bits.{and_lt}
use Rattle.std.proofs.lemmas.Nat.{bit_set_by_shift}
use Rattle.std.proofs.lemmas.Nat.Bits.{shr_and_one}
use Rattle.std.proofs.Math.Nat.{pow-suc, pow-le-pow_right, mod-eq_of_lt}
use Rattle.std.proofs.lemmas.Nat.Bits.{bit_at_clear_same, bit_at_clear_other, bit_at_above}
use Rattle.std.proofs.lemmas.Bool.{cases_lt}
use Rattle.std.proofs.lemmas.Bool.Decides.{eqb_tells}
use Rattle.std.proofs.lemmas.List.{map-append, length-map, length-take-le, take_more, take_all, get_or_past, get_or-map}
use Rattle.std.proofs.lemmas.Simd.{mask_l-lt, bit_mask_l}

take_none : {X : Type 0} (n : ℕ) → take {A = X} n [] ≡ []
take_none zero = refl
take_none (suc n) = refl

-- a bit as a number
abbrev as_bit : Bool → ℕ
as_bit b = cond b 1 0

abbrev one : ℕ
one = 1

one_is : (b : Bool) → as_bit b ≡ one → b ≡ true
one_is true e = refl
one_is false e = absurd (omega (arith, e))

-- a bit is set where it is 1
pub IsBitSet-bit_at : (n k : ℕ) → bit_at n k ≡ 1 → IsBitSet n k
IsBitSet-bit_at n k one = (bit_set_by_shift n k).0 (shr_and_one n k ∙ one)

pub bit_at-IsBitSet : (n k : ℕ) → IsBitSet n k → bit_at n k ≡ 1
bit_at-IsBitSet n k set = sym (shr_and_one n k) ∙ (bit_set_by_shift n k).1 set

take_chunk : {X : Type 0} (xs : List X) (k n : ℕ) → take (k + n) xs ≡ take k xs ++ chunk k n xs
take_chunk xs zero n = let same : zero + n ≡ n = omega arith in ap (λ m. take m xs) same
take_chunk [] (suc k) n = take_none (suc k + n) ∙ sym (take_none n)
take_chunk (x ∷ xs) (suc k) n =
    let next : suc k + n ≡ suc (k + n) = omega arith in
    ap (λ m. take m (x ∷ xs)) next ∙ ap (λ l. x ∷ l) (take_chunk xs k n)

swap : (a b : ℕ) → a * (b * 2) ≡ 2 * (a * b)
swap a b = grind arith

-- the mask of two parts
mask-append : (xs ys : List Bool) → mask_l (xs ++ ys) ≡ mask_l xs + mask_l ys * 2 ^ length xs
mask-append [] ys = omega arith
mask-append (x ∷ xs) ys =
    let rest = mask-append xs ys in
    let doubled : mask_l ys * 2 ^ suc (length xs) ≡ 2 * (mask_l ys * 2 ^ length xs) =
    ap (λ m. mask_l ys * m) (pow-suc 2 (length xs)) ∙ swap (mask_l ys) (2 ^ length xs) in
    omega (arith, rest, doubled)

module _ (p : ℕ → Bool) (row : List ℕ) where
  long : (k : ℕ) → k ≤ length row → length (each p (take k row)) ≡ k
  long k there = length-map (take k row) p ∙ length-take-le k row there

  pub mask_below : (k : ℕ) → k ≤ length row → k ≤ 128 → mask_l (each p (take k row)) < 2 ^ 128
  mask_below k there fits =
      let small = mask_l-lt (each p (take k row)) in
      let power : 2 ^ length (each p (take k row)) ≤ 2 ^ 128 = let most : length (each p (take k row)) ≤ 128 = omega (arith, long k there) in pow-le-pow_right {n = 2} (omega arith) most in
      omega (arith, small, power)

  -- a mask that gains the codes of one chunk
  pub chunk_more : (k n : ℕ) → k + n ≤ length row
      → mask_l (each p (take k row)) + mask_l (each p (chunk k n row)) * 2 ^ k ≡ mask_l (each p (take (k + n) row))
  chunk_more k n there =
      sym (ap (λ l. mask_l (each p l)) (take_chunk row k n)
      ∙ ap mask_l (map-append p (take k row) (chunk k n row))
      ∙ mask-append (each p (take k row)) (each p (chunk k n row))
      ∙ ap (λ m. mask_l (each p (take k row)) + mask_l (each p (chunk k n row)) * 2 ^ m) (long k (omega arith)))

  -- one chunk more: the sum is the mask of one chunk more, and fits
  pub chunk_step : (k n mask bits : ℕ) → k + n ≤ length row → k + n ≤ 128
      → mask ≡ mask_l (each p (take k row)) → bits ≡ mask_l (each p (chunk k n row))
      → (mask + bits * 2 ^ k % 2 ^ 128 ≡ mask_l (each p (take (k + n) row))) × (mask + bits * 2 ^ k % 2 ^ 128 < 2 ^ 128)
  chunk_step k n mask bits there fits before found =
      let more = chunk_more k n there in
      let small = mask_below (k + n) there fits in
      let is : bits * 2 ^ k ≡ mask_l (each p (chunk k n row)) * 2 ^ k = ap (λ b. b * 2 ^ k) found in
      let whole : bits * 2 ^ k % 2 ^ 128 ≡ bits * 2 ^ k = mod-eq_of_lt (omega (arith, more, small, is)) in
      (omega (arith, more, is, whole, before), omega (arith, more, is, whole, before, small))

  -- one code more
  tail_more : (t : ℕ) → t < length row → mask_l (each p (take (t + 1) row)) ≡ mask_l (each p (take t row)) + cond (p (slice_index row t)) 1 0 * 2 ^ t
  tail_more t there =
      ap (λ l. mask_l (each p l)) (take_more row t 0 there)
      ∙ ap mask_l (map-append p (take t row) (slice_index row t ∷ []))
      ∙ mask-append (each p (take t row)) (p (slice_index row t) ∷ [])
      ∙ ap (λ m. mask_l (each p (take t row)) + (cond (p (slice_index row t)) 1 0 + 2 * 0) * 2 ^ m) (long t (omega arith))
      ∙ ap (λ m. mask_l (each p (take t row)) + m * 2 ^ t) (omega arith)

  pub tail_set : (t mask : ℕ) → t < length row → t < 128 → mask ≡ mask_l (each p (take t row)) → p (slice_index row t) ≡ true
      → (mask + 1 * 2 ^ t % 2 ^ 128 ≡ mask_l (each p (take (t + 1) row))) × (mask + 1 * 2 ^ t % 2 ^ 128 < 2 ^ 128)
  tail_set t mask there fits before passes =
      let more = tail_more t there ∙ ap (λ b. mask_l (each p (take t row)) + cond b 1 0 * 2 ^ t) passes in
      let small = mask_below (t + 1) (omega arith) (omega arith) in
      let whole : 1 * 2 ^ t % 2 ^ 128 ≡ 1 * 2 ^ t = mod-eq_of_lt (omega (arith, more, small)) in
      (omega (arith, more, whole, before), omega (arith, more, whole, before, small))

  pub tail_same : (t mask : ℕ) → t < length row → mask ≡ mask_l (each p (take t row)) → p (slice_index row t) ≡ false
      → mask ≡ mask_l (each p (take (t + 1) row))
  tail_same t mask there before fails =
      let more = tail_more t there ∙ ap (λ b. mask_l (each p (take t row)) + cond b 1 0 * 2 ^ t) fails in
      omega (arith, more, before)

  -- the mask of the whole row
  pub told : (n mask : ℕ) → length row ≤ n → mask ≡ mask_l (each p (take n row))
      → (t : ℕ) → IsBitSet mask t ↔ ((t < length row) × (p (slice_index row t) ≡ true))
  told n mask whole is t =
      let all : mask ≡ mask_l (each p row) = is ∙ ap (λ l. mask_l (each p l)) (take_all n row whole) in
      let bit : bit_at mask t ≡ cond (get_or (each p row) t false) 1 0 = ap (λ m. bit_at m t) all ∙ bit_mask_l (each p row) t in
      elim (cases_lt t (length row)) [
        | inl below ↦
            let here : get_or (each p row) t false ≡ p (slice_index row t) = get_or-map p row t 0 false below in (
              λ set. (below, one_is _ (sym (ap (λ b. cond b 1 0) here) ∙ sym bit ∙ bit_at-IsBitSet mask t set)),
              λ both. IsBitSet-bit_at mask t (bit ∙ ap (λ b. cond b 1 0) (here ∙ both.1)),
            )
        | inr past ↦
            let none : get_or (each p row) t false ≡ false = get_or_past (each p row) t false (omega (arith, length-map row p)) in (
              λ set. let no : 0 ≡ one = sym (ap (λ b. cond b 1 0) none) ∙ sym bit ∙ bit_at-IsBitSet mask t set in absurd (omega (arith, no)),
              λ both. absurd (omega (arith, both.0)),
            )
      ]

-- the mask without one bit
pub bit_cleared : (mask own : ℕ) → own < 128 → mask < 2 ^ 128 → (t : ℕ)
    → IsBitSet (bit_and mask (bit_not w128 (1 * 2 ^ own % 2 ^ 128))) t ↔ (IsBitSet mask t × (t ≢ own))
bit_cleared mask own within fits t =
    let less = bit_and mask (bit_not w128 (1 * 2 ^ own % 2 ^ 128)) in
    elim (eqb_tells t own) [
      | inl same ↦
          let zero_there : bit_at less t ≡ 0 = subst (λ n. bit_at less n ≡ 0) (sym same.1) (bit_at_clear_same w128 mask own within) in (
            λ set. let no : 0 ≡ one = sym zero_there ∙ bit_at-IsBitSet less t set in absurd (omega (arith, no)),
            λ both. absurd (both.1 same.1),
          )
      | inr other ↦ elim (cases_lt t 128) [
        | inl below ↦
            let kept : bit_at less t ≡ bit_at mask t = bit_at_clear_other w128 mask own within t below other.1 in (
              λ set. (IsBitSet-bit_at mask t (sym kept ∙ bit_at-IsBitSet less t set), other.1),
              λ both. IsBitSet-bit_at less t (kept ∙ bit_at-IsBitSet mask t both.0),
            )
        | inr past ↦
            let high : bit_at mask t ≡ 0 = bit_at_above mask 128 t fits past in
            let low : bit_at less t ≡ 0 = bit_at_above less 128 t (and_lt 128 mask (bit_not w128 (1 * 2 ^ own % 2 ^ 128)) fits (omega arith)) past in (
              λ set. let no : 0 ≡ one = sym low ∙ bit_at-IsBitSet less t set in absurd (omega (arith, no)),
              λ both. let no : 0 ≡ one = sym high ∙ bit_at-IsBitSet mask t both.0 in absurd (omega (arith, no)),
            )
      ]
    ]

pub bit_past : (mask t : ℕ) → mask < 2 ^ 128 → 128 ≤ t → IsBitSet mask t → ⊥
bit_past mask t fits past set =
    let no : 0 ≡ one = sym (bit_at_above mask 128 t fits past) ∙ bit_at-IsBitSet mask t set in
    absurd (omega (arith, no))

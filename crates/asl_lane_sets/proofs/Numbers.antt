-- The numbers of a set, by the bits of its lanes: of an empty set, with one number more, and with lanes after them.
use Rattle.std.proofs.Common.{subst, ◌++◌, bit_and, ◌≡◌, ◌⊎◌, ⊎_elim, ◌↔◌, ℕ, zero, suc, ◌+◌, ◌-◌, ◌*◌, ◌/◌, ◌%◌, ◌^◌, ◌<◌, ◌≤◌, Bool, true, false, List, [], ◌∷◌, Some, map, length, get_or, replicate, slice_set, bit_or, refl, sym, ap, ◌∙◌, inl, inr, arith, w64, eqb, eqb-true, eq-eqb, length-set, length-append}
use Rattle.std.specs.Int.{bit_at}
use Rattle.std.specs.List.{range_with_len}
use Rattle.std.proofs.lemmas.Bool.{cases_lt, false_from_ne_true}
use Rattle.std.proofs.lemmas.Bool.Decides.{eqb_tells}
use Rattle.std.proofs.lemmas.List.{get_or_past, get_or-set_same, get_or-set_other, get_or-replicate, length-replicate}
use Rattle.std.proofs.lemmas.List.FromFn.{length-map-range_with_len, get_or-map-range_with_len}
use Rattle.std.proofs.lemmas.Option.{slice_get-get_or, slice_get_within, same_Some}
use Rattle.std.proofs.lemmas.Nat.Bits.{shr_and_one, bit_at-zero, bit_at_set_same, bit_at_set_other}
use Rattle.asl_lane_sets.specs.NumberSet.{IsIn}
use Rattle.asl_lane_sets.specs.Packed.{has_bit, is_set, told, IsPacked}

-- the test of a bit tells the bit
pub has_tells : (lane bit : ℕ) → (has_bit lane bit ≡ true) ↔ (bit_at lane bit ≡ 1)
has_tells lane bit = (λ e. eqb-true _ _ e, λ e. eq-eqb _ _ e)

-- as many tests as there are numbers
pub length_told : (len : ℕ) (lanes : List ℕ) → length (told len lanes) ≡ len
length_told len lanes = length-map-range_with_len (is_set lanes) 0 len

-- which numbers are in the set that lanes tell
pub in_told : (len : ℕ) (lanes : List ℕ) → IsPacked len lanes → (k : ℕ) → IsIn (told len lanes) k ↔ (is_set lanes k ≡ true)
in_told len lanes packed k = (
  λ is.
      let below : k < len = omega (arith, slice_get_within (told len lanes) k true is, length_told len lanes) in
      sym (get_or-map-range_with_len (is_set lanes) 0 len k k false below (omega arith)) ∙ same_Some _ _ (sym (slice_get-get_or (told len lanes) k false (omega (arith, length_told len lanes))) ∙ is),
  λ set. elim (cases_lt k len) [
    | inl below ↦ slice_get-get_or (told len lanes) k false (omega (arith, length_told len lanes)) ∙ ap Some (get_or-map-range_with_len (is_set lanes) 0 len k k false below (omega arith) ∙ set)
    | inr past ↦ let clear = packed.clear k past in let never : false ≡ true = sym clear ∙ set in cc
  ],
)

-- no lane has a bit at first
pub none_set : (count k : ℕ) → is_set (replicate count 0) k ≡ false
none_set count k =
    let lane : get_or (replicate count 0) (k / 64) 0 ≡ 0 = elim (cases_lt (k / 64) count) [
      | inl below ↦ get_or-replicate count (k / 64) 0 0 below
      | inr past ↦ get_or_past (replicate count 0) (k / 64) 0 (omega (arith, length_zeros count))
    ] in
    ap (λ w. has_bit w (k % 64)) lane ∙ ap (λ b. eqb b 1) (bit_at-zero (k % 64))
  where
    length_zeros : (n : ℕ) → length (replicate {A = ℕ} n 0) ≡ n
    length_zeros zero = refl
    length_zeros (suc n) = ap suc (length_zeros n)

-- so such lanes tell the empty set
pub told_none : (len count : ℕ) → told len (replicate count 0) ≡ replicate len false
told_none len count = from 0 len
  where
    from : (a n : ℕ) → map (is_set (replicate count 0)) (range_with_len a n) ≡ replicate n false
    from a zero = refl
    from a (suc n) = rw (none_set count a) (ap (λ xs. false ∷ xs) (from (a + 1) n))

-- one bit more
module _ (lanes : List ℕ) (number : ℕ) (there : number / 64 < length lanes) where
  abbrev added : List ℕ
  added = slice_set lanes (number / 64) (bit_or (get_or lanes (number / 64) 0) (1 * 2 ^ (number % 64) % 2 ^ 64))

  -- the number is in the set, and what was in it is
  pub set_added : (k : ℕ) → (is_set added k ≡ true) ↔ ((is_set lanes k ≡ true) ⊎ (k ≡ number))
  set_added k = elim (eqb_tells (k / 64) (number / 64)) [
    | inl same ↦
        let place = same.1 in
        let lane : get_or added (k / 64) 0 ≡ bit_or (get_or lanes (number / 64) 0) (1 * 2 ^ (number % 64) % 2 ^ 64) =
        ap (λ n. get_or added n 0) place ∙ get_or-set_same lanes (number / 64) _ 0 there in
        elim (eqb_tells (k % 64) (number % 64)) [
          | inl bit ↦
              let at = bit.1 in
              let one : bit_at (get_or added (k / 64) 0) (k % 64) ≡ 1 =
              ap (λ n. bit_at (get_or added (k / 64) 0) n) at ∙ ap (λ w. bit_at w (number % 64)) lane ∙ bit_at_set_same w64 (get_or lanes (number / 64) 0) (number % 64) (omega arith) in
              (λ _. inr (omega arith), λ _. (has_tells _ (k % 64)).1 one)
          | inr bit ↦
              let still : bit_at (get_or added (k / 64) 0) (k % 64) ≡ bit_at (get_or lanes (k / 64) 0) (k % 64) =
              ap (λ w. bit_at w (k % 64)) lane ∙ bit_at_set_other w64 (get_or lanes (number / 64) 0) (number % 64) (omega arith) (k % 64) bit.1 ∙ ap (λ n. bit_at (get_or lanes n 0) (k % 64)) (sym place) in
              (λ e. inl (ap (λ b. eqb b 1) (sym still) ∙ e), λ h. ⊎_elim (λ e. ap (λ b. eqb b 1) still ∙ e) (λ e. absurd (bit.1 (ap (λ n. n % 64) e))) h)
        ]
    | inr other ↦
        let still : get_or added (k / 64) 0 ≡ get_or lanes (k / 64) 0 = get_or-set_other lanes (number / 64) (k / 64) _ 0 other.1 in
        (λ e. inl (ap (λ w. has_bit w (k % 64)) (sym still) ∙ e), λ h. ⊎_elim (λ e. ap (λ w. has_bit w (k % 64)) still ∙ e) (λ e. absurd (other.1 (ap (λ n. n / 64) e))) h)
  ]

  pub packed_added : (len : ℕ) → number < len → IsPacked len lanes → IsPacked len added
  packed_added len within packed = record {
    fits = packed.fits;
    count = length-set lanes (number / 64) _ ∙ packed.count;
    clear = λ k past. false_from_ne_true _ (λ e.
        ⊎_elim (λ (old : is_set lanes k ≡ true). let clear = packed.clear k past in let never : false ≡ true = sym clear ∙ old in cc) (λ (same : k ≡ number). absurd (omega arith)) ((set_added k).0 e));
  }

  pub in_added : (len : ℕ) → number < len → IsPacked len lanes → (k : ℕ) → IsIn (told len added) k ↔ (IsIn (told len lanes) k ⊎ (k ≡ number))
  in_added len within packed k =
      let now = in_told len added (packed_added len within packed) k in
      let before = in_told len lanes packed k in (
        λ is. ⊎_elim (λ old. inl (before.1 old)) (λ same. inr same) ((set_added k).0 (now.0 is)),
        λ is. now.1 ((set_added k).1 (⊎_elim (λ old. inl (before.0 old)) (λ same. inr same) is)),
      )

-- the test of a bit
pub has_told : (lanes : List ℕ) (number lane : ℕ) → lane ≡ get_or lanes (number / 64) 0 → eqb (bit_and (lane / 2 ^ (number % 64)) 1) 1 ≡ is_set lanes number
has_told lanes number lane is = ap (λ b. eqb b 1) (shr_and_one lane (number % 64)) ∙ ap (λ w. has_bit w (number % 64)) is

-- the lane of a number that is below the length
pub word_there : (len : ℕ) (lanes : List ℕ) (number : ℕ) → IsPacked len lanes → number < len → number / 64 < length lanes
word_there len lanes number packed below = let count = packed.count in omega (arith, count, below)

-- lanes with none after them
pub set_longer : (lanes : List ℕ) (more k : ℕ) → is_set (lanes ++ replicate more 0) k ≡ is_set lanes k
set_longer lanes more k = ap (λ w. has_bit w (k % 64)) (same lanes more (k / 64))
  where
    zeros : (n i : ℕ) → get_or (replicate {A = ℕ} n 0) i 0 ≡ 0
    zeros zero i = refl
    zeros (suc n) zero = refl
    zeros (suc n) (suc i) = zeros n i

    same : (ws : List ℕ) (n i : ℕ) → get_or (ws ++ replicate n 0) i 0 ≡ get_or ws i 0
    same [] n i = zeros n i
    same (w ∷ ws) n zero = refl
    same (w ∷ ws) n (suc i) = same ws n i

-- the lanes that a longer set has
module _ (len more : ℕ) (lanes new : List ℕ) (n : ℕ) (packed : IsPacked len lanes) (le : len ≤ more) (n_is : n ≡ 4 * ((more - 1) / 256 + 1)) (is : new ≡ lanes ++ replicate (n - length lanes) 0) where
  pub packed_longer : more < 2 ^ 64 → IsPacked more new
  packed_longer fits =
      let count = packed.count in
      let zeros : List ℕ = replicate (n - length lanes) 0 in
      let few : length lanes ≤ n = omega (arith, count, le, n_is) in
      record {
        fits = fits;
        count = omega (arith, ap length is, length-append lanes zeros, length-replicate {A = ℕ} (n - length lanes) 0, few, n_is);
        clear = λ k past. ap (λ ws. is_set ws k) is ∙ set_longer lanes (n - length lanes) k ∙ packed.clear k (omega (arith, le, past));
      }

  pub in_longer : IsPacked more new → (set : List Bool) → told len lanes ≡ set → (k : ℕ) → IsIn (told more new) k ↔ IsIn set k
  in_longer now set set_is k =
      let one = in_told more new now k in
      let two = in_told len lanes packed k in
      let same : is_set new k ≡ is_set lanes k = ap (λ ws. is_set ws k) is ∙ set_longer lanes (n - length lanes) k in
      (λ h. subst (λ s. IsIn s k) set_is (two.1 (sym same ∙ one.0 h)), λ h. one.1 (same ∙ two.0 (subst (λ s. IsIn s k) (sym set_is) h)))

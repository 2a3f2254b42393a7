-- The numbers that two sets have in common, and whether a set has any.
use Rattle.std.proofs.Common.{◌≡◌, ◌⊎◌, ⊎_elim, ◌↔◌, ℕ, zero, suc, ◌+◌, ◌-◌, ◌*◌, ◌/◌, ◌%◌, ◌^◌, ◌<◌, ◌≤◌, Bool, IsTrue, true, false, cond, List, [], ◌∷◌, ◌++◌, length, get_or, bit_and, min, refl, sym, ap, subst, ◌∙◌, inl, inr, arith, eqb, eq-eqb, w64}
use Rattle.std.specs.Int.{bit_at, trailing_zeros}
use Rattle.std.specs.List.{Contains}
use Rattle.std.proofs.lemmas.Bool.{cases_lt}
use Rattle.std.proofs.lemmas.List.{append-nil, get_or_past}
use Rattle.std.proofs.lemmas.List.Elements.{Contains-append_left, Contains-append_right, Contains-append_cases}
use Rattle.std.proofs.lemmas.Nat.Bits.{bit_at_and, bit_at-lt, bit_at-zero, bit_at_above, bit_at-trailing_zeros}
use Rattle.asl_lane_sets.specs.NumberSet.{IsIn}
use Rattle.asl_lane_sets.specs.Packed.{has_bit, is_set, told, IsPacked, ones}
use Rattle.asl_lane_sets.proofs.Members.{one_more, no_ones, contains_here, contains_cases, contains_none}
use Rattle.asl_lane_sets.proofs.Numbers.{has_tells, in_told}

-- what the lowest bits of a lane stand for
one_step : (lane first n : ℕ) → ones lane first (suc n) ≡ ones lane first n ++ cond (has_bit lane n) ((first + n) ∷ []) []
one_step lane first n = let next : suc n ≡ n + 1 = omega arith in ap (ones lane first) next ∙ one_more lane first n

pub ones_from : (lane first n k : ℕ) → Contains (ones lane first n) k → (j : ℕ) × (j < n) × (first + j ≡ k) × (has_bit lane j ≡ true)
ones_from lane first zero k h = absurd (contains_none k h)
ones_from lane first (suc n) k h =
    ⊎_elim (λ old. (let r = ones_from lane first n k old in (r.0, omega (arith, r.1), r.2, r.3))) (λ new. last (has_bit lane n) refl new)
    (Contains-append_cases (ones lane first n) (cond (has_bit lane n) ((first + n) ∷ []) []) k (subst (λ xs. Contains xs k) (one_step lane first n) h))
  where
    last : (b : Bool) → has_bit lane n ≡ b → Contains (cond b ((first + n) ∷ []) []) k → (j : ℕ) × (j < suc n) × (first + j ≡ k) × (has_bit lane j ≡ true)
    last true is new = ⊎_elim (λ e. (n, omega arith, e, is)) (λ none. absurd (contains_none k none)) (contains_cases (first + n) k [] new)
    last false is new = absurd (contains_none k new)

pub of_ones : (lane first n j : ℕ) → j < n → has_bit lane j ≡ true → Contains (ones lane first n) (first + j)
of_ones lane first zero j lt is = absurd (omega (arith, lt))
of_ones lane first (suc n) j lt is = subst (λ xs. Contains xs (first + j)) (sym (one_step lane first n)) (elim (cases_lt j n) [
  | inl below ↦ Contains-append_left (ones lane first n) (cond (has_bit lane n) ((first + n) ∷ []) []) (first + j) (of_ones lane first n j below is)
  | inr past ↦
      let same : j ≡ n = omega (arith, lt, past) in
      let now : has_bit lane n ≡ true = ap (has_bit lane) (sym same) ∙ is in
      Contains-append_right (ones lane first n) (cond (has_bit lane n) ((first + n) ∷ []) []) (first + j)
      (subst (λ b. Contains (cond b ((first + n) ∷ []) []) (first + j)) (sym now) (subst (λ i. Contains ((first + n) ∷ []) (first + i)) (sym same) (contains_here (first + n) [])))
])

-- the bits of both lanes
both_bits : (a b i : ℕ) → (has_bit (bit_and a b) i ≡ true) ↔ ((has_bit a i ≡ true) × (has_bit b i ≡ true))
both_bits a b i =
    let least = bit_at_and a b i in
    let small_a = bit_at-lt a i in
    let small_b = bit_at-lt b i in (
      λ e. (let one = (has_tells (bit_and a b) i).0 e in ((has_tells a i).1 (omega arith), (has_tells b i).1 (omega arith))),
      λ h. (let one = (has_tells a i).0 h.0 in let two = (has_tells b i).0 h.1 in (has_tells (bit_and a b) i).1 (omega arith)),
    )

-- a number below one whose bits are 1 in both lists of lanes
abbrev pub CommonBelow : List ℕ → List ℕ → ℕ → ℕ → Type 0
CommonBelow a b n k = (k < n) × (is_set a k ≡ true) × (is_set b k ≡ true)

-- the bit of a number in its lane
bit_in : (lanes : List ℕ) (place j k : ℕ) → k ≡ place * 64 + j → j < 64 → is_set lanes k ≡ has_bit (get_or lanes place 0) j
bit_in lanes place j k is lt =
    let at : k / 64 ≡ place = omega (arith, is, lt) in
    let bit : k % 64 ≡ j = omega (arith, is, lt) in
    ap (λ n. has_bit (get_or lanes n 0) (k % 64)) at ∙ ap (has_bit (get_or lanes place 0)) bit

-- one lane more
module _ (a b : List ℕ) (place both : ℕ) (is : both ≡ bit_and (get_or a place 0) (get_or b place 0)) where
  common_in : (k : ℕ) → CommonBelow a b (64 * (place + 1)) k → CommonBelow a b (64 * place) k ⊎ Contains (ones both (place * 64) 64) k
  common_in k h = elim (cases_lt k (64 * place)) [
    | inl low ↦ inl (low, h.1, h.2)
    | inr high ↦
        let top = h.0 in
        let at : k ≡ place * 64 + (k - 64 * place) = omega (arith, high) in
        let lt : k - 64 * place < 64 = omega (arith, high, top) in
        let bit : has_bit both (k - 64 * place) ≡ true = ap (λ w. has_bit w (k - 64 * place)) is
        ∙ (both_bits (get_or a place 0) (get_or b place 0) (k - 64 * place)).1 (sym (bit_in a place (k - 64 * place) k at lt) ∙ h.1, sym (bit_in b place (k - 64 * place) k at lt) ∙ h.2) in
        inr (subst (Contains (ones both (place * 64) 64)) (sym at) (of_ones both (place * 64) 64 (k - 64 * place) lt bit))
  ]

  in_common : (k : ℕ) → Contains (ones both (place * 64) 64) k → CommonBelow a b (64 * (place + 1)) k
  in_common k h =
      let one = ones_from both (place * 64) 64 k h in
      let lt = one.1 in
      let at : k ≡ place * 64 + one.0 = omega (arith, one.2) in
      let bits = (both_bits (get_or a place 0) (get_or b place 0) one.0).0 (ap (λ w. has_bit w one.0) (sym is) ∙ one.3) in
      (omega (arith, at, lt), bit_in a place one.0 k at lt ∙ bits.0, bit_in b place one.0 k at lt ∙ bits.1)

  -- the list so far, with the numbers of the lane
  pub common_more : (first old new : List ℕ) → ((k : ℕ) → Contains old k ↔ (Contains first k ⊎ CommonBelow a b (64 * place) k)) → new ≡ old ++ ones both (place * 64) 64
      → (k : ℕ) → Contains new k ↔ (Contains first k ⊎ CommonBelow a b (64 * (place + 1)) k)
  common_more first old new so now k = (
    λ h. ⊎_elim
        (λ o. ⊎_elim (λ f. inl f) (λ c. inr (let low = c.0 in (omega (arith, low), c.1, c.2))) ((so k).0 o))
        (λ n. inr (in_common k n))
        (Contains-append_cases old (ones both (place * 64) 64) k (subst (λ xs. Contains xs k) now h)),
    λ h. subst (λ xs. Contains xs k) (sym now) (⊎_elim
        (λ f. Contains-append_left old (ones both (place * 64) 64) k ((so k).1 (inl f)))
        (λ c. ⊎_elim (λ low. Contains-append_left old (ones both (place * 64) 64) k ((so k).1 (inr low))) (λ n. Contains-append_right old (ones both (place * 64) 64) k n) (common_in k c))
        h),
  )

  -- a lane without bits adds nothing
  pub common_none : both ≡ 0 → (old : List ℕ) → old ≡ old ++ ones both (place * 64) 64
  common_none none old = sym (ap (λ n. old ++ ones n (place * 64) 64) none ∙ ap (λ xs. old ++ xs) (no_ones (place * 64) 64) ∙ append-nil old)

  pub none_more : both ≡ 0 → ((k : ℕ) → CommonBelow a b (64 * place) k → ⊥) → (k : ℕ) → CommonBelow a b (64 * (place + 1)) k → ⊥
  none_more none so k h = ⊎_elim (λ low. so k low) (λ n. contains_none k (subst (λ xs. Contains xs k) (ap (λ w. ones w (place * 64) 64) none ∙ no_ones (place * 64) 64) n)) (common_in k h)

pub common_later : (a b : List ℕ) (place : ℕ) → (k : ℕ) × CommonBelow a b (64 * place) k → (k : ℕ) × CommonBelow a b (64 * (place + 1)) k
common_later a b place h = (let lt = h.1.0 in (h.0, (omega (arith, lt), h.1.1, h.1.2)))

-- a number of a set stands in one of the lanes
set_there : (lanes : List ℕ) (k : ℕ) → is_set lanes k ≡ true → k / 64 < length lanes
set_there lanes k is = elim (cases_lt (k / 64) (length lanes)) [
  | inl there ↦ there
  | inr past ↦
      let zero : get_or lanes (k / 64) 0 ≡ 0 = get_or_past lanes (k / 64) 0 past in
      let never : false ≡ true = sym (ap (λ w. has_bit w (k % 64)) zero ∙ ap (λ b. eqb b 1) (bit_at-zero (k % 64))) ∙ is in
      absurd cc
]

-- a lane that is not 0 has a bit
pub some_bit : (lane : ℕ) → lane < 2 ^ 64 → (lane ≡ 0 → ⊥) → (j : ℕ) × (j < 64) × (has_bit lane j ≡ true)
some_bit lane fits some =
    let low = bit_at-trailing_zeros w64 lane (omega (arith, some)) fits in
    let one = low.1 in (
      trailing_zeros w64 lane,
      elim (cases_lt (trailing_zeros w64 lane) 64) [
        | inl lt ↦ lt
        | inr past ↦ (let none = bit_at_above lane 64 (trailing_zeros w64 lane) fits past in absurd (omega (arith, none, one)))
      ],
      eq-eqb _ _ one,
    )

-- both sets, by their lanes
module _ (len other : ℕ) (a b : List ℕ) (xs ys : List Bool) (pa : IsPacked len a) (pb : IsPacked other b) (xs_is : told len a ≡ xs) (ys_is : told other b ≡ ys) where
  to_both : (n k : ℕ) → CommonBelow a b n k → IsIn xs k × IsIn ys k
  to_both n k h = (subst (λ s. IsIn s k) xs_is ((in_told len a pa k).1 h.1), subst (λ s. IsIn s k) ys_is ((in_told other b pb k).1 h.2))

  of_both : (n k : ℕ) → min (length a) (length b) ≤ n → IsIn xs k × IsIn ys k → CommonBelow a b (64 * n) k
  of_both n k all h =
      let one = (in_told len a pa k).0 (subst (λ s. IsIn s k) (sym xs_is) h.0) in
      let two = (in_told other b pb k).0 (subst (λ s. IsIn s k) (sym ys_is) h.1) in
      let here = set_there a k one in
      let there = set_there b k two in
      (omega (arith, here, there, all), one, two)

  pub common_all : (n : ℕ) → min (length a) (length b) ≤ n → (first new : List ℕ) → ((k : ℕ) → Contains new k ↔ (Contains first k ⊎ CommonBelow a b (64 * n) k))
      → (k : ℕ) → Contains new k ↔ (Contains first k ⊎ (IsIn xs k × IsIn ys k))
  common_all n all first new so k = (
    λ h. ⊎_elim (λ f. inl f) (λ c. inr (to_both (64 * n) k c)) ((so k).0 h),
    λ h. (so k).1 (⊎_elim (λ f. inl f) (λ c. inr (of_both n k all c)) h),
  )

  pub common_tells : (n : ℕ) → min (length a) (length b) ≤ n → (some : Bool) → (some ≡ true → (k : ℕ) × CommonBelow a b (64 * n) k) → (some ≡ false → (k : ℕ) → CommonBelow a b (64 * n) k → ⊥)
      → IsTrue some ↔ ((k : ℕ) × IsIn xs k × IsIn ys k)
  common_tells n all some has none = (
    λ e. (let one = has e in let both = to_both (64 * n) one.0 one.1 in (one.0, both.0, both.1)),
    λ one. of some none (one.0, of_both n one.0 all (one.1, one.2)),
  )
    where
      of : (t : Bool) → (t ≡ false → (k : ℕ) → CommonBelow a b (64 * n) k → ⊥) → (k : ℕ) × CommonBelow a b (64 * n) k → t ≡ true
      of true never one = refl
      of false never one = absurd (never refl one.0 one.1)

-- a lane of both that is not 0 has a number of both
pub common_some : (a b : List ℕ) (place both : ℕ) → both ≡ bit_and (get_or a place 0) (get_or b place 0) → (bit : ℕ) × (bit < 64) × (has_bit both bit ≡ true) → (k : ℕ) × CommonBelow a b (64 * (place + 1)) k
common_some a b place both is bit = (place * 64 + bit.0, in_common a b place both is (place * 64 + bit.0) (of_ones both (place * 64) 64 bit.0 bit.1 bit.2))

-- whether a set has a number, by its lanes
module _ (len : ℕ) (lanes : List ℕ) (xs : List Bool) (packed : IsPacked len lanes) (xs_is : told len lanes ≡ xs) where
  pub some_there : (place lane : ℕ) → lane ≡ get_or lanes place 0 → (bit : ℕ) × (bit < 64) × (has_bit lane bit ≡ true) → (k : ℕ) × IsIn xs k
  some_there place lane is bit =
      (place * 64 + bit.0, subst (λ s. IsIn s (place * 64 + bit.0)) xs_is ((in_told len lanes packed (place * 64 + bit.0)).1 (bit_in lanes place bit.0 (place * 64 + bit.0) refl bit.1 ∙ ap (λ w. has_bit w bit.0) (sym is) ∙ bit.2)))

  pub none_there : (n : ℕ) → length lanes ≤ n → ((place : ℕ) → place < n → get_or lanes place 0 ≡ 0) → (k : ℕ) → ¬ IsIn xs k
  none_there n all zeros k is =
      let one = (in_told len lanes packed k).0 (subst (λ s. IsIn s k) (sym xs_is) is) in
      let there = set_there lanes k one in
      let zero : get_or lanes (k / 64) 0 ≡ 0 = zeros (k / 64) (omega (arith, there, all)) in
      let never : false ≡ true = sym (ap (λ w. has_bit w (k % 64)) zero ∙ ap (λ b. eqb b 1) (bit_at-zero (k % 64))) ∙ one in
      cc

-- The numbers of a set in their order.
use Rattle.std.proofs.Common.{◌≡◌, ◌⊎◌, ⊎_elim, ◌↔◌, ℕ, zero, suc, ◌+◌, ◌-◌, ◌*◌, ◌/◌, ◌%◌, ◌<◌, ◌≤◌, Bool, true, false, cond, List, [], ◌∷◌, ◌++◌, map, length, get_or, refl, sym, ap, subst, ◌∙◌, inl, inr, arith, eqb, eq-eqb, eqb-true, ◌^◌, bit_and, w64}
use Rattle.std.specs.List.{range_with_len, filter, Contains, slice_index_or}
use Rattle.std.proofs.lemmas.Bool.{cases_lt}
use Rattle.std.proofs.lemmas.List.{map-append}
use Rattle.std.proofs.lemmas.List.Elements.{filter-append}
use Rattle.std.proofs.lemmas.List.FromFn.{length-range_with_len, get_or-range_with_len}
use Rattle.std.proofs.lemmas.List.Kept.{AllPairs-from_increasing, IsStrictlyIncreasing-filter}
use Rattle.std.specs.Int.{bit_at, trailing_zeros}
use Rattle.std.proofs.lemmas.Nat.{shr-shr, shr_le}
use Rattle.std.proofs.lemmas.Nat.Bits.{bit_at-zero, shr_and_one, bit_at-trailing_zeros, bit_at_above}
use Rattle.asl_lane_sets.specs.NumberSet.{IsIn, IsRising, members_from, members_of}
use Rattle.asl_lane_sets.specs.Packed.{has_bit, is_set, told, IsPacked, ones}

range_split : (a m n : ℕ) → range_with_len a (m + n) ≡ range_with_len a m ++ range_with_len (a + m) n
range_split a zero n =
    let count : 0 + n ≡ n = omega arith in
    let from : a + 0 ≡ a = omega arith in
    ap (λ k. range_with_len a k) count ∙ ap (λ k. range_with_len k n) (sym from)
range_split a (suc m) n =
    let count : suc m + n ≡ suc (m + n) = omega arith in
    let from : a + 1 + m ≡ a + suc m = omega arith in
    ap (λ k. range_with_len a k) count ∙ ap (λ xs. a ∷ xs) (range_split (a + 1) m n ∙ ap (λ k. range_with_len (a + 1) m ++ range_with_len k n) from)

pub one_more : (lane first bit : ℕ) → ones lane first (bit + 1) ≡ ones lane first bit ++ cond (has_bit lane bit) ((first + bit) ∷ []) []
one_more lane first bit =
    ap (λ xs. map (λ b. first + b) (filter (has_bit lane) xs)) (range_split 0 bit 1)
    ∙ ap (map (λ b. first + b)) (filter-append (has_bit lane) (range_with_len 0 bit) ((0 + bit) ∷ []))
    ∙ map-append (λ b. first + b) (filter (has_bit lane) (range_with_len 0 bit)) (filter (has_bit lane) ((0 + bit) ∷ []))
    ∙ ap (λ xs. ones lane first bit ++ xs) (last (0 + bit) (omega arith))
  where
    last : (b : ℕ) → b ≡ bit → map (λ n. first + n) (filter (has_bit lane) (b ∷ [])) ≡ cond (has_bit lane bit) ((first + bit) ∷ []) []
    last b e = ap (λ n. map (λ k. first + k) (filter (has_bit lane) (n ∷ []))) e ∙ one (has_bit lane bit)
      where
        one : (t : Bool) → map (λ n. first + n) (cond t (bit ∷ []) []) ≡ cond t ((first + bit) ∷ []) []
        one true = refl
        one false = refl

-- the numbers whose bits are 1 in the first lanes
abbrev pub first_ones : List ℕ → ℕ → List ℕ
first_ones lanes count = filter (is_set lanes) (range_with_len 0 count)

-- a filter of places is the places of another test
shifted : (p q : ℕ → Bool) (first c n : ℕ) → ((b : ℕ) → c ≤ b → b < c + n → p (first + b) ≡ q b) → filter p (range_with_len (first + c) n) ≡ map (λ b. first + b) (filter q (range_with_len c n))
shifted p q first c zero same = refl
shifted p q first c (suc n) same =
    let from : first + c + 1 ≡ first + (c + 1) = omega arith in
    let rest = ap (λ k. filter p (range_with_len k n)) from ∙ shifted p q first (c + 1) n (λ b low high. same b (omega arith) (omega arith)) in
    ap (λ t. cond t ((first + c) ∷ filter p (range_with_len (first + c + 1) n)) (filter p (range_with_len (first + c + 1) n))) (same c (omega arith) (omega arith))
    ∙ ap (λ xs. cond (q c) ((first + c) ∷ xs) xs) rest ∙ pushed (q c)
  where
    pushed : (t : Bool) → cond t ((first + c) ∷ map (λ b. first + b) (filter q (range_with_len (c + 1) n))) (map (λ b. first + b) (filter q (range_with_len (c + 1) n)))
        ≡ map (λ b. first + b) (cond t (c ∷ filter q (range_with_len (c + 1) n)) (filter q (range_with_len (c + 1) n)))
    pushed true = refl
    pushed false = refl

-- a lane more
pub word_more : (lanes : List ℕ) (place lane : ℕ) → lane ≡ get_or lanes place 0 → first_ones lanes (64 * (place + 1)) ≡ first_ones lanes (64 * place) ++ ones lane (place * 64) 64
word_more lanes place lane is =
    let count : 64 * (place + 1) ≡ 64 * place + 64 = omega arith in
    let first : 0 + 64 * place ≡ place * 64 + 0 = omega arith in
    ap (first_ones lanes) count
    ∙ ap (filter (is_set lanes)) (range_split 0 (64 * place) 64)
    ∙ filter-append (is_set lanes) (range_with_len 0 (64 * place)) (range_with_len (0 + 64 * place) 64)
    ∙ ap (λ n. first_ones lanes (64 * place) ++ filter (is_set lanes) (range_with_len n 64)) first
    ∙ ap (λ xs. first_ones lanes (64 * place) ++ xs) (shifted (is_set lanes) (has_bit lane) (place * 64) 0 64 (λ b low high.
    let at : (place * 64 + b) / 64 ≡ place = omega arith in
    let bit : (place * 64 + b) % 64 ≡ b = omega arith in
    ap (λ n. has_bit (get_or lanes n 0) ((place * 64 + b) % 64)) at ∙ ap (has_bit (get_or lanes place 0)) bit ∙ ap (λ w. has_bit w b) (sym is)))

-- no number passes a test
none_pass : (p : ℕ → Bool) (a n : ℕ) → ((k : ℕ) → a ≤ k → p k ≡ false) → filter p (range_with_len a n) ≡ []
none_pass p a zero none = refl
none_pass p a (suc n) none = ap (λ t. cond t (a ∷ filter p (range_with_len (a + 1) n)) (filter p (range_with_len (a + 1) n))) (none a (omega arith)) ∙ none_pass p (a + 1) n (λ k le. none k (omega arith))

pub no_ones : (first n : ℕ) → ones 0 first n ≡ []
no_ones first n = ap (map (λ b. first + b)) (none_pass (has_bit 0) 0 n (λ k le. ap (λ b. eqb b 1) (bit_at-zero k)))

members_filter : (p : ℕ → Bool) (a n : ℕ) → members_from a (map p (range_with_len a n)) ≡ filter p (range_with_len a n)
members_filter p a zero = refl
members_filter p a (suc n) = head (p a) (members_filter p (a + 1) n)
  where
    head : (t : Bool) → members_from (a + 1) (map p (range_with_len (a + 1) n)) ≡ filter p (range_with_len (a + 1) n)
        → members_from a (t ∷ map p (range_with_len (a + 1) n)) ≡ cond t (a ∷ filter p (range_with_len (a + 1) n)) (filter p (range_with_len (a + 1) n))
    head true e = ap (λ xs. a ∷ xs) e
    head false e = e

-- the numbers of all lanes are those of the set
pub lanes_members : (len : ℕ) (lanes : List ℕ) → IsPacked len lanes → first_ones lanes (64 * length lanes) ≡ members_of (told len lanes)
lanes_members len lanes packed =
    let count = packed.count in
    let all : 64 * length lanes ≡ len + (64 * length lanes - len) = omega (arith, count) in
    ap (first_ones lanes) all
    ∙ ap (filter (is_set lanes)) (range_split 0 len (64 * length lanes - len))
    ∙ filter-append (is_set lanes) (range_with_len 0 len) (range_with_len (0 + len) (64 * length lanes - len))
    ∙ ap (λ xs. first_ones lanes len ++ xs) (none_pass (is_set lanes) (0 + len) (64 * length lanes - len) (λ k le. packed.clear k (omega arith)))
    ∙ nothing_more (first_ones lanes len) ∙ sym (members_filter (is_set lanes) 0 len)
  where
    nothing_more : (xs : List ℕ) → xs ++ [] ≡ xs
    nothing_more [] = refl
    nothing_more (x ∷ xs) = ap (λ ys. x ∷ ys) (nothing_more xs)

range_rises : (a n k : ℕ) → k + 1 < length (range_with_len a n) → get_or (range_with_len a n) k 0 < get_or (range_with_len a n) (k + 1) 0
range_rises a n k lt =
    let long = length-range_with_len a n in
    let one = get_or-range_with_len a n k 0 (omega arith) in
    let two = get_or-range_with_len a n (k + 1) 0 (omega arith) in
    omega (arith, one, two)

pub ones_rise : (lanes : List ℕ) (n : ℕ) → IsRising (first_ones lanes n)
ones_rise lanes n = AllPairs-from_increasing (first_ones lanes n) (IsStrictlyIncreasing-filter (is_set lanes) (range_with_len 0 n) (range_rises 0 n))

-- what stands in the list of members
pub contains_here : (x : ℕ) (xs : List ℕ) → Contains (x ∷ xs) x
contains_here x xs = (0, omega arith, refl)

contains_later : (x y : ℕ) (xs : List ℕ) → Contains xs y → Contains (x ∷ xs) y
contains_later x y xs h = (suc h.0, omega (arith, h.1), h.2)

pub contains_cases : (x y : ℕ) (xs : List ℕ) → Contains (x ∷ xs) y → (x ≡ y) ⊎ Contains xs y
contains_cases x y xs h = at h.0 h.1 h.2
  where
    at : (k : ℕ) → k < suc (length xs) → slice_index_or (x ∷ xs) k y ≡ y → (x ≡ y) ⊎ Contains xs y
    at zero lt e = inl e
    at (suc k) lt e = inr (k, omega arith, e)

pub contains_none : (y : ℕ) → Contains [] y → ⊥
contains_none y h = absurd (omega (arith, h.1))

members_are : (first : ℕ) (set : List Bool) (k : ℕ) → Contains (members_from first set) k → (n : ℕ) × (first + n ≡ k) × IsIn set n
members_are first [] k h = absurd (contains_none k h)
members_are first (true ∷ set) k h =
    ⊎_elim (λ e. (0, omega arith, refl)) (λ later. let m = members_are (first + 1) set k later in (suc m.0, omega (arith, m.1), m.2)) (contains_cases first k (members_from (first + 1) set) h)
members_are first (false ∷ set) k h = let m = members_are (first + 1) set k h in (suc m.0, omega (arith, m.1), m.2)

are_members : (first : ℕ) (set : List Bool) (n : ℕ) → IsIn set n → Contains (members_from first set) (first + n)
are_members first [] n is = cc
are_members first (true ∷ set) zero is = let same : first + 0 ≡ first = omega arith in subst (Contains (first ∷ members_from (first + 1) set)) (sym same) (contains_here first (members_from (first + 1) set))
are_members first (true ∷ set) (suc n) is = let same : first + 1 + n ≡ first + suc n = omega arith in contains_later first (first + suc n) (members_from (first + 1) set) (subst (Contains (members_from (first + 1) set)) same (are_members (first + 1) set n is))
are_members first (false ∷ set) zero is = cc
are_members first (false ∷ set) (suc n) is = let same : first + 1 + n ≡ first + suc n = omega arith in subst (Contains (members_from (first + 1) set)) same (are_members (first + 1) set n is)

pub members_tell : (set : List Bool) (k : ℕ) → Contains (members_of set) k ↔ IsIn set k
members_tell set k = (
  λ h. let m = members_are 0 set k h in let same : m.0 ≡ k = omega (arith, m.1) in subst (IsIn set) same m.2,
  λ is. let same : 0 + k ≡ k = omega arith in subst (Contains (members_of set)) same (are_members 0 set k is),
)

-- the test of a bit, as the code makes it
pub bit_told : (lane bit : ℕ) → (bit_and (lane / 2 ^ bit) 1 ≡ 1) ↔ (has_bit lane bit ≡ true)
bit_told lane bit = (λ e. eq-eqb _ _ (sym (shr_and_one lane bit) ∙ e), λ e. shr_and_one lane bit ∙ eqb-true _ _ e)

-- the bits of a lane that is shifted
shifted_bit : (lane from bit : ℕ) → bit_at (lane / 2 ^ from) bit ≡ bit_at lane (from + bit)
shifted_bit lane from bit = ap (λ n. n % 2) (shr-shr lane from bit)

module _ (lane from : ℕ) where
  pub zero_shifted : (k : ℕ) → lane / 2 ^ from ≡ 0 → from ≤ k → has_bit lane k ≡ false
  zero_shifted k none le =
      let at : from + (k - from) ≡ k = omega arith in
      ap (λ n. eqb n 1) (ap (bit_at lane) (sym at) ∙ sym (shifted_bit lane from (k - from)) ∙ ap (λ w. bit_at w (k - from)) none ∙ bit_at-zero (k - from))

  module _ (fits : lane < 2 ^ 64) where
    small : lane / 2 ^ from < 2 ^ 64
    small = let le = shr_le lane from in omega (arith, le, fits)

    pub none_shifted : (lane / 2 ^ from ≡ 0 → ⊥) → (k : ℕ) → from ≤ k → k < from + trailing_zeros w64 (lane / 2 ^ from) → has_bit lane k ≡ false
    none_shifted some k le lt =
        let at : from + (k - from) ≡ k = omega arith in
        let low = bit_at-trailing_zeros w64 (lane / 2 ^ from) (omega (arith, some)) small in
        ap (λ n. eqb n 1) (ap (bit_at lane) (sym at) ∙ sym (shifted_bit lane from (k - from)) ∙ low.2 (k - from) (omega (arith, lt, le)))

    pub one_shifted : from < 64 → (lane / 2 ^ from ≡ 0 → ⊥) → (from + trailing_zeros w64 (lane / 2 ^ from) ≤ 64) × (from + trailing_zeros w64 (lane / 2 ^ from) < 64 → has_bit lane (from + trailing_zeros w64 (lane / 2 ^ from)) ≡ true)
    one_shifted below some =
        let low = bit_at-trailing_zeros w64 (lane / 2 ^ from) (omega (arith, some)) small in
        let one : bit_at lane (from + trailing_zeros w64 (lane / 2 ^ from)) ≡ 1 = sym (shifted_bit lane from (trailing_zeros w64 (lane / 2 ^ from))) ∙ low.1 in
        (inside one, λ lt. eq-eqb _ _ one)
      where
        inside : bit_at lane (from + trailing_zeros w64 (lane / 2 ^ from)) ≡ 1 → from + trailing_zeros w64 (lane / 2 ^ from) ≤ 64
        inside one = elim (cases_lt (from + trailing_zeros w64 (lane / 2 ^ from)) 64) [
          | inl lt ↦ omega (arith, lt)
          | inr past ↦ (let none = bit_at_above lane 64 _ fits past in absurd (omega (arith, none, one)))
        ]

-- no bit between two places
pub none_between : (lane first low high : ℕ) → low ≤ high → ((k : ℕ) → low ≤ k → k < high → has_bit lane k ≡ false) → ones lane first high ≡ ones lane first low
none_between lane first low high le none =
    let split : high ≡ low + (high - low) = omega (arith, le) in
    ap (ones lane first) split
    ∙ ap (λ xs. map (λ b. first + b) (filter (has_bit lane) xs)) (range_split 0 low (high - low))
    ∙ ap (map (λ b. first + b)) (filter-append (has_bit lane) (range_with_len 0 low) (range_with_len (0 + low) (high - low)) ∙ ap (λ xs. filter (has_bit lane) (range_with_len 0 low) ++ xs) (none_in (0 + low) (high - low) (λ k l h. none k (omega (arith, l)) (omega (arith, h, le)))))
    ∙ ap (map (λ b. first + b)) (nothing_more (filter (has_bit lane) (range_with_len 0 low)))
  where
    nothing_more : (xs : List ℕ) → xs ++ [] ≡ xs
    nothing_more [] = refl
    nothing_more (x ∷ xs) = ap (λ ys. x ∷ ys) (nothing_more xs)

    none_in : (a n : ℕ) → ((k : ℕ) → a ≤ k → k < a + n → has_bit lane k ≡ false) → filter (has_bit lane) (range_with_len a n) ≡ []
    none_in a zero h = refl
    none_in a (suc n) h = ap (λ t. cond t (a ∷ filter (has_bit lane) (range_with_len (a + 1) n)) (filter (has_bit lane) (range_with_len (a + 1) n))) (h a (omega arith) (omega arith)) ∙ none_in (a + 1) n (λ k l lt. h k (omega (arith, l)) (omega (arith, lt)))

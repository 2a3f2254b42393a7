-- The numbers of two sets: of both joined, of one without those of the other, and whether one is within the other.
use Rattle.std.proofs.Common.{IsTrue, subst, ◌≡◌, ◌⊎◌, ⊎_elim, ◌↔◌, ℕ, zero, suc, ◌+◌, ◌*◌, ◌/◌, ◌%◌, ◌^◌, ◌<◌, ◌≤◌, Bool, true, false, List, [], ◌∷◌, get_or, bit_or, refl, sym, ap, ◌∙◌, inl, inr, arith}
use Rattle.std.specs.Int.{bit_at}
use Rattle.std.proofs.lemmas.Bool.{cases_lt, false_from_ne_true}
use Rattle.std.proofs.lemmas.Bool.Decides.{eqb_tells}
use Rattle.std.proofs.lemmas.Nat.Bits.{bit_at_or, bit_at-lt, bit_at_above, same_from_bits}
use Rattle.asl_lane_sets.specs.NumberSet.{IsIn}
use Rattle.asl_lane_sets.specs.Packed.{AreLanes, has_bit, is_set, told, IsPacked, AreJoined, AreCleared, Differ}
use Rattle.asl_lane_sets.proofs.Numbers.{has_tells, in_told}

-- the bits of either lane
pub bit_of_either : (a b i : ℕ) → (has_bit (bit_or a b) i ≡ true) ↔ ((has_bit a i ≡ true) ⊎ (has_bit b i ≡ true))
bit_of_either a b i =
    let of_either = bit_at_or a b i in
    let small_a = bit_at-lt a i in
    let small_b = bit_at-lt b i in (
      λ e.
          let one = (has_tells (bit_or a b) i).0 e in
          elim (eqb_tells (bit_at a i) 1) [ inl is ↦ inl is.0 | inr isnt ↦ let other = isnt.1 in inr ((has_tells b i).1 (omega arith)) ],
      λ h. (has_tells (bit_or a b) i).1 (⊎_elim (λ (e : has_bit a i ≡ true). let one = (has_tells a i).0 e in omega arith) (λ (e : has_bit b i ≡ true). let one = (has_tells b i).0 e in omega arith) h),
    )

module _ (a b c : List ℕ) (joins : AreJoined a b c) where
  -- what is in either is in both joined
  pub set_joined : (k : ℕ) → (is_set c k ≡ true) ↔ ((is_set a k ≡ true) ⊎ (is_set b k ≡ true))
  set_joined k =
      let is : is_set c k ≡ has_bit (bit_or (get_or a (k / 64) 0) (get_or b (k / 64) 0)) (k % 64) = ap (λ w. has_bit w (k % 64)) (joins.1 (k / 64)) in
      let each = bit_of_either (get_or a (k / 64) 0) (get_or b (k / 64) 0) (k % 64) in
      (λ e. each.0 (sym is ∙ e), λ h. is ∙ each.1 h)

  -- where the second set is no longer than the first
  module _ (len other : ℕ) (le : other ≤ len) (pa : IsPacked len a) (pb : IsPacked other b) where
    -- it has as many lanes as the first, and none past its length
    pub packed_joined : IsPacked len c
    packed_joined = record {
      fits = pa.fits;
      count = joins.0 ∙ pa.count;
      clear = λ k past. false_from_ne_true _ (λ e.
          ⊎_elim (λ (x : is_set a k ≡ true). let clear = pa.clear k past in let never : false ≡ true = sym clear ∙ x in cc) (λ (x : is_set b k ≡ true). let clear = pb.clear k (omega (arith, le, past)) in let never : false ≡ true = sym clear ∙ x in cc) ((set_joined k).0 e));
    }

    pub in_joined : (k : ℕ) → IsIn (told len c) k ↔ (IsIn (told len a) k ⊎ IsIn (told other b) k)
    in_joined k =
        let now = in_told len c packed_joined k in
        let of_a = in_told len a pa k in
        let of_b = in_told other b pb k in (
          λ is. ⊎_elim (λ x. inl (of_a.1 x)) (λ x. inr (of_b.1 x)) ((set_joined k).0 (now.0 is)),
          λ is. now.1 ((set_joined k).1 (⊎_elim (λ x. inl (of_a.0 x)) (λ x. inr (of_b.0 x)) is)),
        )

-- lanes whose bits are all those of others add nothing
module _ (a b : List ℕ) (fits_a : (i : ℕ) → get_or a i 0 < 2 ^ 64) (fits_b : (i : ℕ) → get_or b i 0 < 2 ^ 64) where
  pub nothing_added : ((k : ℕ) → is_set b k ≡ true → is_set a k ≡ true) → (place : ℕ) → get_or a place 0 ≡ bit_or (get_or a place 0) (get_or b place 0)
  nothing_added within place = sym (same_from_bits _ _ (λ i. elim (cases_lt i 64) [
    | inl below ↦
        let number : (64 * place + i) / 64 ≡ place = omega arith in
        let bit : (64 * place + i) % 64 ≡ i = omega arith in
        let told_a : is_set a (64 * place + i) ≡ has_bit (get_or a place 0) i = ap (λ n. has_bit (get_or a n 0) ((64 * place + i) % 64)) number ∙ ap (has_bit (get_or a place 0)) bit in
        let told_b : is_set b (64 * place + i) ≡ has_bit (get_or b place 0) i = ap (λ n. has_bit (get_or b n 0) ((64 * place + i) % 64)) number ∙ ap (has_bit (get_or b place 0)) bit in
        let of_either = bit_at_or (get_or a place 0) (get_or b place 0) i in
        let small_a = bit_at-lt (get_or a place 0) i in
        let small_b = bit_at-lt (get_or b place 0) i in
        elim (eqb_tells (bit_at (get_or b place 0) i) 1) [
          | inl is ↦
              let also = (has_tells (get_or a place 0) i).0 (sym told_a ∙ within (64 * place + i) (told_b ∙ is.0)) in omega arith
          | inr isnt ↦ let other = isnt.1 in omega arith
        ]
    | inr past ↦
        let of_either = bit_at_or (get_or a place 0) (get_or b place 0) i in
        let none_a = bit_at_above (get_or a place 0) 64 i (fits_a place) past in
        let none_b = bit_at_above (get_or b place 0) 64 i (fits_b place) past in
        omega arith
  ]))

-- each number of one set is one of another, or some is not
pub new_or_none : (old from : List Bool) → ((k : ℕ) → IsIn from k → IsIn old k) ⊎ ((k : ℕ) × IsIn from k × ¬ IsIn old k)
new_or_none old [] = inl (λ k is. absurd (nothing k is))
  where
    nothing : (k : ℕ) → IsIn [] k → ⊥
    nothing k is = cc
new_or_none [] (true ∷ from) = inr (0, refl, λ is. cc)
new_or_none [] (false ∷ from) = ⊎_elim
    (λ all. inl (λ k. elim k as (λ n. IsIn (false ∷ from) n → IsIn [] n) [ zero ↦ λ is. cc | suc n ↦ λ is. absurd (empty n (all n is)) ]))
    (λ some. inr (suc some.0, some.1, λ is. cc))
    (new_or_none [] from)
  where
    empty : (k : ℕ) → IsIn [] k → ⊥
    empty k is = cc
new_or_none (false ∷ old) (true ∷ from) = inr (0, refl, λ is. cc)
new_or_none (true ∷ old) (x ∷ from) = ⊎_elim
    (λ all. inl (λ k. elim k as (λ n. IsIn (x ∷ from) n → IsIn (true ∷ old) n) [ zero ↦ λ is. refl | suc n ↦ all n ]))
    (λ some. inr (suc some.0, some.1, some.2))
    (new_or_none old from)
new_or_none (false ∷ old) (false ∷ from) = ⊎_elim
    (λ all. inl (λ k. elim k as (λ n. IsIn (false ∷ from) n → IsIn (false ∷ old) n) [ zero ↦ λ is. cc | suc n ↦ all n ]))
    (λ some. inr (suc some.0, some.1, some.2))
    (new_or_none old from)

module _ (len other : ℕ) (le : other ≤ len) (a b : List ℕ) (fits_a : (i : ℕ) → get_or a i 0 < 2 ^ 64) (fits_b : (i : ℕ) → get_or b i 0 < 2 ^ 64) (pa : IsPacked len a) (pb : IsPacked other b) where
  -- where each number is in the first, joining adds nothing to its lanes
  within_lanes : ((k : ℕ) → IsIn (told other b) k → IsIn (told len a) k) → (place : ℕ) → get_or a place 0 ≡ bit_or (get_or a place 0) (get_or b place 0)
  within_lanes all = nothing_added a b fits_a fits_b (λ k is. (in_told len a pa k).0 (all k ((in_told other b pb k).1 is)))

  -- one set is within another where joining adds nothing to its lanes
  pub within_told : AreJoined a b a ↔ ((k : ℕ) → IsIn (told other b) k → IsIn (told len a) k)
  within_told = (
    λ joins k is. (in_joined a b a joins len other le pa pb k).1 (inr is),
    λ all. (refl, within_lanes all),
  )

  -- lanes that change gain a number
  pub grown_told : (c : List ℕ) → AreJoined a b c → Differ a c ↔ ((k : ℕ) × IsIn (told other b) k × ¬ IsIn (told len a) k)
  grown_told c joins = (
    λ d. ⊎_elim (λ all. absurd (d.different (within_lanes all d.place ∙ sym (joins.1 d.place)))) (λ some. some) (new_or_none (told len a) (told other b)),
    λ some. record {
      place = some.0 / 64;
      different = λ e.
          let is : is_set c some.0 ≡ true = (set_joined a b c joins some.0).1 (inr ((in_told other b pb some.0).0 some.1)) in
          some.2 ((in_told len a pa some.0).1 (ap (λ w. has_bit w (some.0 % 64)) e ∙ is));
    },
  )

-- the same of two sets by their fields, where xs and ys are the values
module _ (len other : ℕ) (same : len ≡ other) (a b : List ℕ) where
  pub within_told_by : (xs ys : List Bool) → IsPacked len a → IsPacked other b → told len a ≡ xs → told other b ≡ ys → AreLanes a → AreLanes b
      → (result : Bool) → (IsTrue result ↔ AreJoined b a b) → IsTrue result ↔ ((k : ℕ) → IsIn xs k → IsIn ys k)
  within_told_by xs ys pa pb xs_is ys_is fits_a fits_b result tells =
      let qb : IsPacked len b = subst (λ n. IsPacked n b) (sym same) pb in
      let of_b : told len b ≡ ys = ap (λ n. told n b) same ∙ ys_is in
      let all = within_told len len (omega arith) b a fits_b fits_a qb pa in (
        λ e k is. subst (λ s. IsIn s k) of_b (all.0 (tells.0 e) k (subst (λ s. IsIn s k) (sym xs_is) is)),
        λ h. tells.1 (all.1 (λ k is. subst (λ s. IsIn s k) (sym of_b) (h k (subst (λ s. IsIn s k) xs_is is)))),
      )

-- the second set is no longer than the first
module _ (len other : ℕ) (le : other ≤ len) (a b c : List ℕ) where
  pub merged_packed : IsPacked len a → IsPacked other b → AreJoined a b c → IsPacked len c
  merged_packed pa pb joins = packed_joined a b c joins len other le pa pb

  module _ (xs ys : List Bool) (pa : IsPacked len a) (pb : IsPacked other b) (joins : AreJoined a b c) (xs_is : told len a ≡ xs) (ys_is : told other b ≡ ys) where
    pub merged_in : (k : ℕ) → IsIn (told len c) k ↔ (IsIn xs k ⊎ IsIn ys k)
    merged_in k = subst (λ s. IsIn (told len c) k ↔ (IsIn s k ⊎ IsIn ys k)) xs_is (subst (λ s. IsIn (told len c) k ↔ (IsIn (told len a) k ⊎ IsIn s k)) ys_is (in_joined a b c joins len other le pa pb k))

    pub merged_grew : AreLanes a → AreLanes b → (result : Bool) → (IsTrue result ↔ Differ a c) → IsTrue result ↔ ((k : ℕ) × IsIn ys k × ¬ IsIn xs k)
    merged_grew fits_a fits_b result tells =
        let grown = grown_told len other le a b fits_a fits_b pa pb c joins in (
          λ e. let some = grown.0 (tells.0 e) in (some.0, subst (λ s. IsIn s some.0) ys_is some.1, λ is. some.2 (subst (λ s. IsIn s some.0) (sym xs_is) is)),
          λ some. tells.1 (grown.1 (some.0, subst (λ s. IsIn s some.0) (sym ys_is) some.1, λ is. some.2 (subst (λ s. IsIn s some.0) xs_is is))),
        )

-- the numbers of one set that are none of another
module _ (a b c : List ℕ) (cleared : AreCleared a b c) where
  -- what is in the first and not in the second
  pub set_cleared : (k : ℕ) → (is_set c k ≡ true) ↔ ((is_set a k ≡ true) × (is_set b k ≡ false))
  set_cleared k = cleared.1 (k / 64) (k % 64)

  pub packed_cleared : (len : ℕ) → IsPacked len a → IsPacked len c
  packed_cleared len pa = record {
    fits = pa.fits;
    count = cleared.0 ∙ pa.count;
    clear = λ k past. false_from_ne_true _ (λ e. let was = ((set_cleared k).0 e).0 in let clear = pa.clear k past in let never : false ≡ true = sym clear ∙ was in cc);
  }

  pub in_cleared : (len other : ℕ) → IsPacked len a → IsPacked other b → (k : ℕ) → IsIn (told len c) k ↔ (IsIn (told len a) k × ¬ IsIn (told other b) k)
  in_cleared len other pa pb k =
      let now = in_told len c (packed_cleared len pa) k in
      let of_a = in_told len a pa k in
      let of_b = in_told other b pb k in (
        λ is. (let both = (set_cleared k).0 (now.0 is) in (of_a.1 both.0, λ h. (let yes = of_b.0 h in let no = both.1 in let never : false ≡ true = sym no ∙ yes in cc))),
        λ both. now.1 ((set_cleared k).1 (of_a.0 both.0, false_from_ne_true _ (λ e. both.1 (of_b.1 e)))),
      )

pub removed_in : (len other : ℕ) (a b c : List ℕ) (xs ys : List Bool) → IsPacked len a → IsPacked other b → AreCleared a b c → told len a ≡ xs → told other b ≡ ys
    → (k : ℕ) → IsIn (told len c) k ↔ (IsIn xs k × ¬ IsIn ys k)
removed_in len other a b c xs ys pa pb cleared xs_is ys_is k =
    subst (λ s. IsIn (told len c) k ↔ (IsIn s k × ¬ IsIn ys k)) xs_is
    (subst (λ s. IsIn (told len c) k ↔ (IsIn (told len a) k × ¬ IsIn s k)) ys_is
    (in_cleared a b c cleared len other pa pb k))

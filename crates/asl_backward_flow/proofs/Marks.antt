-- Numbers in sets.
use Rattle.std.proofs.Common.{◌≡◌, ◌⊎◌, ⊎_elim, ◌↔◌, if◌then◌else◌, ℕ, zero, suc, ◌+◌, ◌<◌, ◌≤◌, Bool, IsTrue, true, false, List, [], ◌∷◌, Some, length, replicate, get_or, slice_get, slice_set, unwrap_or, inl, inr, refl, ap, sym, subst, ◌∙◌, length-set, arith}
use Rattle.std.proofs.lemmas.List.Sums.{sum_by-set}
use Rattle.asl_lane_sets.specs.NumberSet.{IsIn}
use Rattle.asl_backward_flow.specs.Found.{list_at, free, free_in, IsMarked}
use Rattle.asl_backward_flow.proofs.SpanLaws.{below_or_at}
use Rattle.asl_backward_flow.proofs.ReplacedLists.{list_here, list_else}

pub empty_replicate : (len n : ℕ) → IsIn (replicate len false) n → ⊥
empty_replicate zero n h = cc
empty_replicate (suc len) zero h = cc
empty_replicate (suc len) (suc n) h = empty_replicate len n h

abbrev taken : List Bool → ℕ → Bool
taken set n = unwrap_or (slice_get set n) false

taken_in : (set : List Bool) (n : ℕ) → taken set n ≡ true → IsIn set n
taken_in [] n e = absurd cc
taken_in (b ∷ set) zero e = ap Some e
taken_in (b ∷ set) (suc n) e = taken_in set n e

in_taken : (set : List Bool) (n : ℕ) → IsIn set n → taken set n ≡ true
in_taken set n e = ap (λ o. unwrap_or o false) e

pub is_in : (set : List Bool) (n : ℕ) → IsIn set n ⊎ (¬ IsIn set n)
is_in [] n = inr (λ h. cc)
is_in (true ∷ set) zero = inl refl
is_in (false ∷ set) zero = inr (λ h. cc)
is_in (b ∷ set) (suc n) = is_in set n

abbrev place_of : Bool → ℕ
place_of b = if b then 0 else 1

fewer : (a b : Bool) → (b ≡ true → a ≡ true) → place_of a ≤ place_of b
fewer true true h = omega arith
fewer true false h = omega arith
fewer false true h = let e = h refl in absurd cc
fewer false false h = omega arith

one_fewer : (a b : Bool) → a ≡ true → (b ≡ true → ⊥) → place_of a + 1 ≤ place_of b
one_fewer a true e not = absurd (not refl)
one_fewer true false e not = omega arith
one_fewer false false e not = absurd cc

module _ (x y : List Bool) (kept : (n : ℕ) → IsIn x n → IsIn y n) where
  still : (n : ℕ) → taken x n ≡ true → taken y n ≡ true
  still n e = in_taken y n (kept n (taken_in x n e))

  free_fewer : (m : ℕ) → free m y ≤ free m x
  unfolding free
  free_fewer zero = omega arith
  free_fewer (suc m) = let one = fewer (taken y m) (taken x m) (still m) in let more = free_fewer m in omega (arith, one, more)

  free_taken : (number m : ℕ) → number < m → IsIn y number → ¬ IsIn x number → free m y + 1 ≤ free m x
  unfolding free
  free_taken number zero lt has not = absurd (omega (arith, lt))
  free_taken number (suc m) lt has not =
      ⊎_elim
      (λ below. let one = fewer (taken y m) (taken x m) (still m) in let more = free_taken number m below has not in omega (arith, one, more))
      (λ (e : number ≡ m).
      let now : taken y m ≡ true = in_taken y m (subst (IsIn y) e has) in
      let one = one_fewer (taken y m) (taken x m) now (λ t. not (subst (IsIn x) (sym e) (taken_in x m t))) in
      let more = free_fewer m in
      omega (arith, one, more))
      (below_or_at number m (omega (arith, lt)))

pub get_here : (sets : List (List Bool)) (place : ℕ) (d : List Bool) → place < length sets → list_at sets place ≡ get_or sets place d
get_here [] place d lt = absurd (omega arith)
get_here (s ∷ sets) zero d lt = refl
get_here (s ∷ sets) (suc place) d lt = get_here sets place d (omega arith)

pub get_past : (sets : List (List Bool)) (place : ℕ) → length sets ≤ place → list_at sets place ≡ []
get_past [] place le = refl
get_past (s ∷ sets) zero le = absurd (omega (arith, le))
get_past (s ∷ sets) (suc place) le = get_past sets place (omega (arith, le))

-- the set at a place is replaced by one that has these numbers too, of which there are new ones or none
module _ (sets : List (List Bool)) (place : ℕ) (numbers : ℕ → Type 0) (x y : List Bool) (there : place < length sets) (is : x ≡ get_or sets place x)
    (small : (n : ℕ) → numbers n → n < 4096) (added : (n : ℕ) → IsIn y n ↔ (IsIn x n ⊎ numbers n)) where
  here : list_at sets place ≡ x
  here = get_here sets place x there ∙ sym is

  abbrev SomeNew : Type 0
  SomeNew = (n : ℕ) × numbers n × ¬ IsIn x n

  pub marked : (is_new : Bool) → (is_new ≡ true → SomeNew) → (is_new ≡ false → (n : ℕ) → numbers n → IsIn x n) → IsMarked sets (slice_set sets place y) place numbers is_new
  marked is_new new had = record {
    count = length-set sets place y;
    rest = λ k ne. list_else sets place k y ne;
    here = λ n. (
      λ h. subst (λ s. IsIn s n ⊎ numbers n) (sym here) ((added n).0 (subst (λ s. IsIn s n) (list_here sets place y there) h)),
      λ h. subst (λ s. IsIn s n) (sym (list_here sets place y there)) ((added n).1 (subst (λ s. IsIn s n ⊎ numbers n) here h)),
    );
    fresh = fresh is_new had;
    some = λ e. let n = new e in (n.0, subst (λ s. IsIn s n.0) (sym (list_here sets place y there)) ((added n.0).1 (inr n.1)));
    less = few is_new new;
  }
    where
      kept : (n : ℕ) → IsIn x n → IsIn y n
      kept n h = (added n).1 (inl h)

      fresh : (b : Bool) → (b ≡ false → (n : ℕ) → numbers n → IsIn x n) → (b ≡ true) ⊎ ((n : ℕ) → numbers n → IsIn (list_at sets place) n)
      fresh true had = inl refl
      fresh false had = inr (λ n h. subst (λ s. IsIn s n) (sym here) (had refl n h))

      few : (b : Bool) → (b ≡ true → SomeNew) → free_in (slice_set sets place y) + (if b then 1 else 0) ≤ free_in sets
      few true new =
          let n = new refl in
          let sums = sum_by-set (free 4096) sets place y x there in
          let low = free_taken x y kept n.0 4096 (small n.0 n.1) ((added n.0).1 (inr n.1)) n.2 in
          let same = ap (free 4096) is in
          omega (arith, sums, low, same)
      few false new =
          let sums = sum_by-set (free 4096) sets place y x there in
          let low = free_fewer x y kept 4096 in
          let same = ap (free 4096) is in
          omega (arith, sums, low, same)

-- the set, with more room, had the number, or has it now
module _ (sets : List (List Bool)) (place number : ℕ) (x y : List Bool) (there : place < length sets) (is : x ≡ get_or sets place x) (small : number < 4096)
    (same : (n : ℕ) → IsIn y n ↔ IsIn x n) (b : Bool) (tells : IsTrue b ↔ IsIn y number) where
  this_small : (n : ℕ) → n ≡ number → n < 4096
  this_small n e = omega (arith, small, e)

  pub marked_had : b ≡ true → IsMarked sets (slice_set sets place y) place (λ n. n ≡ number) false
  marked_had e = marked sets place (λ n. n ≡ number) x y there is this_small
      (λ n. (λ h. inl ((same n).0 h), λ h. ⊎_elim (λ o. (same n).1 o) (λ (k : n ≡ number). subst (IsIn y) (sym k) (tells.0 e)) h))
      false (λ k. absurd cc) (λ k n h. subst (IsIn x) (sym h) ((same number).0 (tells.0 e)))

  pub marked_new : (z : List Bool) → ((n : ℕ) → IsIn z n ↔ (IsIn y n ⊎ (n ≡ number))) → b ≡ false → IsMarked sets (slice_set sets place z) place (λ n. n ≡ number) true
  marked_new z added e = marked sets place (λ n. n ≡ number) x z there is this_small
      (λ n. (λ h. ⊎_elim (λ o. inl ((same n).0 o)) (λ k. inr k) ((added n).0 h), λ h. (added n).1 (⊎_elim (λ o. inl ((same n).1 o)) (λ k. inr k) h)))
      true (λ k. (number, refl, λ h. differ b e (tells.1 ((same number).1 h)))) (λ k. absurd cc)
    where
      differ : (c : Bool) → c ≡ false → c ≡ true → ⊥
      differ true f t = cc
      differ false f t = cc

-- the numbers of a set are added to the set, with more room
module _ (sets : List (List Bool)) (place : ℕ) (numbers x y z : List Bool) (there : place < length sets) (is : x ≡ get_or sets place x) (small : (n : ℕ) → IsIn numbers n → n < 4096)
    (same : (n : ℕ) → IsIn y n ↔ IsIn x n) (added : (n : ℕ) → IsIn z n ↔ (IsIn y n ⊎ IsIn numbers n)) (b : Bool) (grew : IsTrue b ↔ ((k : ℕ) × IsIn numbers k × ¬ IsIn y k)) where
  pub marked_all : IsMarked sets (slice_set sets place z) place (IsIn numbers) b
  marked_all = marked sets place (IsIn numbers) x z there is small
      (λ n. (λ h. ⊎_elim (λ o. inl ((same n).0 o)) (λ k. inr k) ((added n).0 h), λ h. (added n).1 (⊎_elim (λ o. inl ((same n).1 o)) (λ k. inr k) h)))
      b (λ e. let k = grew.0 e in (k.0, k.1, λ h. k.2 ((same k.0).1 h)))
      (λ e n h. elim (is_in y n) [ inl is ↦ (same n).0 is | inr not ↦ absurd (differ b e (grew.1 (n, h, not))) ])
    where
      differ : (c : Bool) → c ≡ false → c ≡ true → ⊥
      differ true f t = cc
      differ false f t = cc

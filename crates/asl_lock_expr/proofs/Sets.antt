-- Sets of classes, and the lists of their numbers.
use Rattle.std.proofs.Common.{◌≡◌, ◌⊎◌, ⊎_elim, ◌↔◌, ℕ, zero, suc, ◌+◌, ◌<◌, ◌≤◌, ◌==◌, Bool, true, false, List, [], ◌∷◌, Some, map, length, get_or, replicate, slice_get, slice_set, refl, sym, ap, subst, ◌∙◌, inl, inr, arith}
use Rattle.std.specs.Prelude.{unwrap_or, IsTrue}
use Rattle.std.specs.List.{list_any}
use Rattle.std.proofs.lemmas.Bool.{cases_lt}
use Rattle.std.proofs.lemmas.Bool.Decides.{same_from_decides}
use Rattle.std.proofs.lemmas.Option.{slice_get-map, slice_get_read, slice_get_within}
use Rattle.std.specs.Option.{option_map}
use Rattle.asl_lane_sets.specs.NumberSet.{members_from, members_of}
use Rattle.asl_lane_sets.specs.NumberSet.{IsIn as IsOf}
use Rattle.asl_lock_expr.specs.Stores.{stores}
use Rattle.asl_lock_expr.specs.Storing.{IsIn, IsMarked, AreOver, row}
use Rattle.asl_lock_expr.proofs.RowNumbers.{in_from_test, in_to_test, row_added_at}
use Rattle.asl_lock_expr.proofs.Searches.{none_marked}
use Rattle.asl_lock_expr.proofs.Storings.{AreBelow}

-- ---- the numbers of a set

in_from : (first : ℕ) (set : List Bool) (k : ℕ) → IsIn (members_from first set) k → (n : ℕ) × (first + n ≡ k) × IsOf set n
in_from first [] k h = absurd h
in_from first (true ∷ set) k (inl e) = (0, omega arith, refl)
in_from first (true ∷ set) k (inr h) = let m = in_from (first + 1) set k h in (suc m.0, omega (arith, m.1), m.2)
in_from first (false ∷ set) k h = let m = in_from (first + 1) set k h in (suc m.0, omega (arith, m.1), m.2)

in_to : (first : ℕ) (set : List Bool) (n : ℕ) → IsOf set n → IsIn (members_from first set) (first + n)
in_to first [] n is = cc
in_to first (true ∷ set) zero is = inl (omega arith)
in_to first (true ∷ set) (suc n) is = let same : first + 1 + n ≡ first + suc n = omega arith in inr (subst (IsIn (members_from (first + 1) set)) same (in_to (first + 1) set n is))
in_to first (false ∷ set) zero is = cc
in_to first (false ∷ set) (suc n) is = let same : first + 1 + n ≡ first + suc n = omega arith in subst (IsIn (members_from (first + 1) set)) same (in_to (first + 1) set n is)

pub in_members : (set : List Bool) (k : ℕ) → IsIn (members_of set) k ↔ IsOf set k
in_members set k = (
  λ h. let m = in_from 0 set k h in let same : m.0 ≡ k = omega (arith, m.1) in subst (IsOf set) same m.2,
  λ is. let same : 0 + k ≡ k = omega arith in subst (IsIn (members_of set)) same (in_to 0 set k is),
)

-- ---- sets in a list

abbrev set_at : List (List Bool) → ℕ → List Bool
set_at sets f = unwrap_or (slice_get sets f) []

pub row_members : (sets : List (List Bool)) (f : ℕ) → row (map members_of sets) f ≡ members_of (set_at sets f)
row_members [] f = refl
row_members (s ∷ sets) zero = refl
row_members (s ∷ sets) (suc f) = row_members sets f

map_set : {B : Type 0} (g : List Bool → B) (sets : List (List Bool)) (f : ℕ) (new : List Bool) → map g (slice_set sets f new) ≡ slice_set (map g sets) f (g new)
map_set g [] f new = refl
map_set g (s ∷ sets) zero new = refl
map_set g (s ∷ sets) (suc f) new = ap (λ xs. g s ∷ xs) (map_set g sets f new)

set_same : (lengths : List ℕ) (f len : ℕ) → slice_get lengths f ≡ Some len → slice_set lengths f len ≡ lengths
set_same [] f len e = refl
set_same (l ∷ lengths) zero len e = let same : l ≡ len = cc in ap (λ n. n ∷ lengths) (sym same)
set_same (l ∷ lengths) (suc f) len e = ap (λ xs. l ∷ xs) (set_same lengths f len e)

long_map : {A B : Type 0} (g : A → B) (xs : List A) → length (map g xs) ≡ length xs
long_map g [] = refl
long_map g (x ∷ xs) = ap suc (long_map g xs)

pub length_at : (sets : List (List Bool)) (f : ℕ) (set : List Bool) → f < length sets → set ≡ get_or sets f set → slice_get (map length sets) f ≡ Some (length set)
length_at sets f set lt is = slice_get-map length sets f ∙ ap (option_map length) (slice_get_read sets (length sets) f set refl lt is)

module _ (sets : List (List Bool)) (f class : ℕ) (old new : List Bool) (lt : f < length sets) (is : old ≡ get_or sets f old) where
  pub lengths_kept : length new ≡ length old → map length (slice_set sets f new) ≡ map length sets
  lengths_kept same = map_set length sets f new ∙ ap (slice_set (map length sets) f) same ∙ set_same (map length sets) f (length old) (length_at sets f old lt is)

  pub class_added : ((k : ℕ) → IsOf new k ↔ (IsOf old k ⊎ (k ≡ class)))
      → (g x : ℕ) → IsIn (row (map members_of (slice_set sets f new)) g) x ↔ (IsIn (row (map members_of sets) g) x ⊎ ((g ≡ f) × (x ≡ class)))
  class_added added =
      let here : row (map members_of sets) f ≡ members_of old = row_members sets f ∙ ap (λ o. members_of (unwrap_or o [])) (slice_get_read sets (length sets) f old refl lt is) in
      row_added_at (map members_of sets) (map members_of sets) (map members_of (slice_set sets f new)) f f class (members_of new) refl (λ a. refl) (subst (λ n. f < n) (sym (long_map members_of sets)) lt) (map_set members_of sets f new)
      (λ n. (
        λ h. ⊎_elim (λ o. inl (subst (λ xs. IsIn xs n) (sym here) ((in_members old n).1 o))) (λ e. inr e) ((added n).0 ((in_members new n).0 h)),
        λ h. (in_members new n).1 ((added n).1 (⊎_elim (λ o. inl ((in_members old n).0 (subst (λ xs. IsIn xs n) here o))) (λ e. inr e) h)),
      ))

-- ---- the sets at first

pub lengths_first : (count len : ℕ) → map length (replicate count (replicate len false)) ≡ replicate count len
lengths_first zero len = refl
lengths_first (suc n) len = let rest = lengths_first n len in ap (λ k. k ∷ map length (replicate n (replicate len false))) (long len) ∙ ap (λ xs. len ∷ xs) rest
  where
    long : (k : ℕ) → length (replicate k false) ≡ k
    long zero = refl
    long (suc k) = ap suc (long k)

pub over_first : (count len number : ℕ) → number < len → AreOver number (replicate count len)
over_first zero len number lt n m e = cc
over_first (suc count) len number lt zero m e = let same : len ≡ m = cc in omega arith
over_first (suc count) len number lt (suc n) m e = over_first count len number lt n m e

none_first : (count len f x : ℕ) → IsOf (set_at (replicate count (replicate len false)) f) x → ⊥
none_first zero len f x h = absurd (none_marked 0 x h)
none_first (suc count) len zero x h = none_marked len x h
none_first (suc count) len (suc f) x h = none_first count len f x h

pub below_first : (count : ℕ) (own callers : List (List ℕ)) (many len : ℕ) → AreBelow count own callers (map members_of (replicate many (replicate len false))) 0
below_first count own callers many len f x = (
  λ h. absurd (none_first many len f x ((in_members (set_at (replicate many (replicate len false)) f) x).0 (subst (λ xs. IsIn xs x) (row_members (replicate many (replicate len false)) f) h))),
  λ h. absurd (omega (arith, h.0)),
)

-- ---- the test

-- whether a class is one of a set tells whether it stands in the list of its numbers
pub told_by_list : (sets : List (List Bool)) (function class : ℕ) (set : List Bool) (result : Bool) → set_at sets function ≡ set → (IsTrue result ↔ IsOf set class) → result ≡ stores (map members_of sets) function class
told_by_list sets function class set result is tells =
    let listed : list_any (λ x. x == class) (members_of set) ≡ stores (map members_of sets) function class = ap (λ xs. list_any (λ x. x == class) xs) (sym (row_members sets function ∙ ap members_of is)) in
    same_from_decides result (list_any (λ x. x == class) (members_of set)) tells (
      λ e. (in_members set class).0 (in_from_test (members_of set) class e),
      λ h. in_to_test (members_of set) class ((in_members set class).1 h),
    ) ∙ listed

-- a set past the last is empty
pub told_past : (sets : List (List Bool)) (function class : ℕ) → length sets ≤ function → false ≡ stores (map members_of sets) function class
told_past [] function class le = refl
told_past (s ∷ sets) zero class le = absurd (omega arith)
told_past (s ∷ sets) (suc f) class le = told_past sets f class (omega arith)

pub told_some : (sets : List (List Bool)) (function place class number : ℕ) (set : List Bool) (result : Bool) → place ≡ function → number ≡ class → slice_get sets place ≡ Some set → (IsTrue result ↔ IsOf set number) → result ≡ stores (map members_of sets) function class
told_some sets function place class number set result same also at tells =
    told_by_list sets function class set result (ap (λ o. unwrap_or o []) (ap (slice_get sets) (sym same) ∙ at)) (subst (λ n. IsTrue result ↔ IsOf set n) also tells)

-- ---- marks in a loop

module _ (Old Now New : ℕ → ℕ → Type 0) (marks : List Bool) (n class : ℕ) (so : (f x : ℕ) → Now f x ↔ (Old f x ⊎ ((f < n) × IsMarked marks f × (x ≡ class)))) where
  pub marked_more : IsMarked marks n → ((f x : ℕ) → New f x ↔ (Now f x ⊎ ((f ≡ n) × (x ≡ class)))) → (f x : ℕ) → New f x ↔ (Old f x ⊎ ((f < n + 1) × IsMarked marks f × (x ≡ class)))
  marked_more marked added f x = (
    λ h. ⊎_elim (λ o. ⊎_elim (λ p. inl p) (λ q. inr (omega (arith, q.0), q.1, q.2)) ((so f x).0 o)) (λ e. inr (omega (arith, e.0), subst (IsMarked marks) (sym e.0) marked, e.1)) ((added f x).0 h),
    λ h. (added f x).1 (⊎_elim (λ o. inl ((so f x).1 (inl o))) (λ q. elim (cases_lt f n) [
      | inl less ↦ inl ((so f x).1 (inr (less, q.1, q.2)))
      | inr past ↦ inr (omega (arith, q.0), q.2)
    ]) h),
  )

  pub unmarked_more : slice_get marks n ≡ Some false → (f x : ℕ) → Now f x ↔ (Old f x ⊎ ((f < n + 1) × IsMarked marks f × (x ≡ class)))
  unmarked_more isnt f x = (
    λ h. ⊎_elim (λ p. inl p) (λ q. inr (omega (arith, q.0), q.1, q.2)) ((so f x).0 h),
    λ h. (so f x).1 (⊎_elim (λ o. inl o) (λ q. elim (cases_lt f n) [
      | inl less ↦ inr (less, q.1, q.2)
      | inr past ↦ let same : f ≡ n = omega (arith, q.0) in let never : Some false ≡ Some true = sym isnt ∙ ap (slice_get marks) (sym same) ∙ q.1 in cc
    ]) h),
  )

  pub marked_all : length marks ≤ n → (f x : ℕ) → Now f x ↔ (Old f x ⊎ (IsMarked marks f × (x ≡ class)))
  marked_all end f x = (
    λ h. ⊎_elim (λ p. inl p) (λ q. inr (q.1, q.2)) ((so f x).0 h),
    λ h. (so f x).1 (⊎_elim (λ o. inl o) (λ q. let lt = slice_get_within marks f true q.0 in inr (omega (arith, lt, end), q.0, q.1)) h),
  )

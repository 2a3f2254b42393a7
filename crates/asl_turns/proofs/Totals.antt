-- Sums over the hands of all seats, and how often a number is among tickets.
use Rattle.std.proofs.Common.{◌≡◌, ℕ, zero, suc, ◌+◌, ◌≤◌, List, [], ◌∷◌, ◌++◌, set, sym, refl, ap, cond, nat_eq, arith}
use Rattle.std.specs.Prelude.{sum_by}
use Rattle.std.proofs.lemmas.List.Sums.{sum_by-cons, sum_by-append, sum_by_push}
use mathlib.Core.Option.{some, some-injective, some-ne-none}
use lib.ListN.{get_elem?}
use Rattle.asl_turns.specs.Turn.{times}

module _ {A : Type 0} (f : A → ℕ) where
  pub total_set : (l : List A) (k : ℕ) (v w : A) → get_elem? l k ≡ some v → sum_by f (set l k w) + f v ≡ sum_by f l + f w
  total_set [] k v w e = absurd (some-ne-none v (sym e))
  total_set (x ∷ xs) zero v w e =
      let same : f x ≡ f v = ap f (some-injective x v e) in
      omega (arith, sum_by-cons f w xs, sum_by-cons f x xs)
  total_set (x ∷ xs) (suc k) v w e =
      omega (arith, sum_by-cons f x (set xs k w), sum_by-cons f x xs, total_set xs k v w e)

  -- one of them is at most all of them
  pub at_most_total : (l : List A) (k : ℕ) (v : A) → get_elem? l k ≡ some v → f v ≤ sum_by f l
  at_most_total [] k v e = absurd (some-ne-none v (sym e))
  at_most_total (x ∷ xs) zero v e =
      let same : f x ≡ f v = ap f (some-injective x v e) in
      omega (arith, sum_by-cons f x xs)
  at_most_total (x ∷ xs) (suc k) v e =
      omega (arith, sum_by-cons f x xs, at_most_total xs k v e)

module _ {A : Type 0} (f g : A → ℕ) where
  -- where f is at least g everywhere, so are the sums
  pub total_le : ((v : A) → g v ≤ f v) → (l : List A) → sum_by g l ≤ sum_by f l
  total_le le [] = omega arith
  total_le le (x ∷ xs) =
      let here = le x in
      omega (arith, sum_by-cons f x xs, sum_by-cons g x xs, total_le le xs)

  none : (l : List A) → ((k : ℕ) (v : A) → get_elem? l k ≡ some v → f v ≡ 0 → g v ≡ 0) → sum_by f l ≡ 0 → sum_by g l ≡ 0
  none [] nil e = refl
  none (x ∷ xs) nil e =
      let parts = sum_by-cons f x xs in
      let here : g x ≡ 0 = nil zero x refl (omega arith) in
      omega (arith, sum_by-cons g x xs, none xs (λ k. nil (suc k)) (omega arith))

  -- one has all of f: it has all of g, where g is nothing wherever f is
  pub total_alone : (l : List A) (k : ℕ) (v : A) → get_elem? l k ≡ some v → ((j : ℕ) (w : A) → get_elem? l j ≡ some w → f w ≡ 0 → g w ≡ 0)
      → f v ≡ sum_by f l → g v ≡ sum_by g l
  total_alone [] k v e nil all = absurd (some-ne-none v (sym e))
  total_alone (x ∷ xs) zero v e nil all =
      let same = some-injective x v e in
      let f_same : f x ≡ f v = ap f same in
      let g_same : g x ≡ g v = ap g same in
      let parts = sum_by-cons f x xs in
      omega (arith, sum_by-cons g x xs, none xs (λ j. nil (suc j)) (omega arith))
  total_alone (x ∷ xs) (suc k) v e nil all =
      let parts = sum_by-cons f x xs in
      let most = at_most_total f xs k v e in
      let here : g x ≡ 0 = nil zero x refl (omega arith) in
      omega (arith, sum_by-cons g x xs, total_alone xs k v e (λ j. nil (suc j)) (omega arith))

pub times_push : (number : ℕ) (tickets : List ℕ) (ticket : ℕ) → times number (tickets ++ ticket ∷ []) ≡ times number tickets + cond (nat_eq ticket number) 1 0
times_push number tickets ticket = sum_by_push (λ t. cond (nat_eq t number) 1 0) tickets ticket

pub times_append : (number : ℕ) (one other : List ℕ) → times number (one ++ other) ≡ times number one + times number other
times_append number one other = sum_by-append (λ t. cond (nat_eq t number) 1 0) one other

-- What is in a list of numbers and in the rows of a table: after lists are joined, after a number is added to a row, and by the tests
-- that the code makes.
use Rattle.std.proofs.Common.{◌≡◌, ℕ, zero, suc, ◌<◌, ◌-◌, ◌⊎◌, ◌↔◌, ◌++◌, ◌==◌, ◌||◌, true, List, [], ◌∷◌, length, get_or, Some, slice_get, slice_set, refl, ap, sym, ◌∙◌, subst, inl, inr, arith}
use Rattle.std.specs.Prelude.{unwrap_or}
use Rattle.std.specs.List.{list_any}
use Rattle.std.proofs.lemmas.Option.{slice_get_read}
use Rattle.std.proofs.lemmas.Bool.Decides.{eqb_tells}
use Rattle.asl_lock_expr.specs.Storing.{IsIn, row}

-- what is in one of two lists is in both together, and the other way round
pub in_left : (xs ys : List ℕ) (n : ℕ) → IsIn xs n → IsIn (xs ++ ys) n
in_left [] ys n i = absurd i
in_left (x ∷ xs) ys n (inl e) = inl e
in_left (x ∷ xs) ys n (inr i) = inr (in_left xs ys n i)

pub in_right : (xs ys : List ℕ) (n : ℕ) → IsIn ys n → IsIn (xs ++ ys) n
in_right [] ys n i = i
in_right (x ∷ xs) ys n i = inr (in_right xs ys n i)

pub in_either : (xs ys : List ℕ) (n : ℕ) → IsIn (xs ++ ys) n → IsIn xs n ⊎ IsIn ys n
in_either [] ys n i = inr i
in_either (x ∷ xs) ys n (inl e) = inl (inl e)
in_either (x ∷ xs) ys n (inr i) = elim (in_either xs ys n i) [ inl p ↦ inl (inr p) | inr q ↦ inr q ]

-- the test of a list tells what is in it
pub in_from_test : (xs : List ℕ) (n : ℕ) → list_any (λ x. x == n) xs ≡ true → IsIn xs n
in_from_test [] n e = cc
in_from_test (x ∷ xs) n e =
    elim (eqb_tells x n) [
      | inl same ↦ inl same.1
      | inr other ↦ inr (in_from_test xs n (ap (λ b. b || list_any (λ y. y == n) xs) (sym other.0) ∙ e))
    ]

-- and what is in it is found by the test
pub in_to_test : (xs : List ℕ) (n : ℕ) → IsIn xs n → list_any (λ x. x == n) xs ≡ true
in_to_test [] n i = absurd i
in_to_test (x ∷ xs) n i =
    elim (eqb_tells x n) [
      | inl same ↦ ap (λ b. b || list_any (λ y. y == n) xs) same.0
      | inr other ↦ ap (λ b. b || list_any (λ y. y == n) xs) other.0 ∙ elim i [ inl e ↦ absurd (other.1 e) | inr j ↦ in_to_test xs n j ]
    ]

-- a row that is not empty is there
pub row_there : (rows : List (List ℕ)) (at n : ℕ) → IsIn (row rows at) n → at < length rows
row_there [] at n i = absurd i
row_there (r ∷ rows) zero n i = omega arith
row_there (r ∷ rows) (suc at) n i = let h = row_there rows at n i in omega arith

-- an element that is read is there
pub there : {X : Type 0} (xs : List X) (n : ℕ) (x : X) → slice_get xs n ≡ Some x → n < length xs
there [] n x e = cc
there (y ∷ xs) zero x e = omega arith
there (y ∷ xs) (suc n) x e = let h = there xs n x e in omega arith

-- an empty row at the end changes no row
pub row_push : (rows : List (List ℕ)) (new : List ℕ) (a : ℕ) → new ≡ [] → row (rows ++ new ∷ []) a ≡ row rows a
row_push [] new zero e = e
row_push [] new (suc a) e = refl
row_push (r ∷ rows) new zero e = refl
row_push (r ∷ rows) new (suc a) e = row_push rows new a e

-- one row written
row_set_here : (rows : List (List ℕ)) (at : ℕ) (new : List ℕ) → at < length rows → row (slice_set rows at new) at ≡ new
row_set_here [] at new lt = absurd (omega arith)
row_set_here (r ∷ rows) zero new lt = refl
row_set_here (r ∷ rows) (suc at) new lt = row_set_here rows at new (omega arith)

row_set_other : (rows : List (List ℕ)) (at a : ℕ) (new : List ℕ) → (a ≡ at → ⊥) → row (slice_set rows at new) a ≡ row rows a
row_set_other [] at a new other = refl
row_set_other (r ∷ rows) zero zero new other = absurd (other refl)
row_set_other (r ∷ rows) zero (suc a) new other = refl
row_set_other (r ∷ rows) (suc at) zero new other = refl
row_set_other (r ∷ rows) (suc at) (suc a) new other = row_set_other rows at a new (λ e. other (ap suc e))

-- a number added at the end of one row
pub row_added : (old grown new : List (List ℕ)) (at number : ℕ) (given : List ℕ) → ((a : ℕ) → row grown a ≡ row old a) → at < length grown → new ≡ slice_set grown at given →
    ((n : ℕ) → IsIn given n ↔ (IsIn (row grown at) n ⊎ (n ≡ number))) → (a n : ℕ) → IsIn (row new a) n ↔ (IsIn (row old a) n ⊎ ((a ≡ at) × (n ≡ number)))
row_added old grown new at number given same lt is all a n =
    elim (eqb_tells a at) [
      | inl here ↦
          let now : row new a ≡ given = ap (row new) here.1 ∙ ap (λ (rows : List (List ℕ)). row rows at) is ∙ row_set_here grown at given lt in
          let was : row grown at ≡ row old a = ap (row grown) (sym here.1) ∙ same a in (
            λ i. elim ((all n).0 (subst (λ (xs : List ℕ). IsIn xs n) now i)) [ inl p ↦ inl (subst (λ (xs : List ℕ). IsIn xs n) was p) | inr e ↦ inr (here.1, e) ],
            λ i. subst (λ (xs : List ℕ). IsIn xs n) (sym now) ((all n).1 (elim i [ inl p ↦ inl (subst (λ (xs : List ℕ). IsIn xs n) (sym was) p) | inr q ↦ inr q.1 ])),
          )
      | inr other ↦
          let now : row new a ≡ row old a = ap (λ (rows : List (List ℕ)). row rows a) is ∙ row_set_other grown at a given other.1 ∙ same a in (
            λ i. inl (subst (λ (xs : List ℕ). IsIn xs n) now i),
            λ i. elim i [ inl p ↦ subst (λ (xs : List ℕ). IsIn xs n) (sym now) p | inr q ↦ absurd (other.1 q.0) ],
          )
    ]

-- the last of a list is in it
pub last_in : (xs : List ℕ) (n : ℕ) → slice_get xs (length xs - 1) ≡ Some n → IsIn xs n
last_in [] n e = cc
last_in (x ∷ []) n e = (let same : x ≡ n = cc in inl same)
last_in (x ∷ y ∷ xs) n e =
    let one : length (x ∷ y ∷ xs) - 1 ≡ suc (length (y ∷ xs) - 1) = omega arith in
    let there : slice_get (y ∷ xs) (length (y ∷ xs) - 1) ≡ Some n = subst (λ k. slice_get (x ∷ y ∷ xs) k ≡ Some n) one e in
    inr (last_in (y ∷ xs) n there)

-- a row that was longer by a number, or had it already
pub pushed_in : (xs : List ℕ) (number n : ℕ) → IsIn (xs ++ number ∷ []) n ↔ (IsIn xs n ⊎ (n ≡ number))
pushed_in xs number n = (
  λ i. elim (in_either xs _ n i) [ inl p ↦ inl p | inr q ↦ elim q [ inl e ↦ inr (sym e) | inr z ↦ absurd z ] ],
  λ i. elim i [ inl p ↦ in_left xs _ n p | inr e ↦ in_right xs _ n (inl (sym e)) ],
)

pub had_it : (xs : List ℕ) (number n : ℕ) → IsIn xs number → IsIn xs n ↔ (IsIn xs n ⊎ (n ≡ number))
had_it xs number n there = (λ i. inl i, λ i. elim i [ inl p ↦ p | inr e ↦ subst (IsIn xs) (sym e) there ])

-- a list of length 0 is empty
pub no_items : {X : Type 0} (xs : List X) → length xs ≡ 0 → xs ≡ []
no_items [] e = refl
no_items (x ∷ xs) e = absurd (omega arith)

-- the same, at a place that is named otherwise
pub row_added_at : (old grown new : List (List ℕ)) (place at number : ℕ) (given : List ℕ) → place ≡ at → ((a : ℕ) → row grown a ≡ row old a) → place < length grown → new ≡ slice_set grown place given →
    ((n : ℕ) → IsIn given n ↔ (IsIn (row grown place) n ⊎ (n ≡ number))) → (a n : ℕ) → IsIn (row new a) n ↔ (IsIn (row old a) n ⊎ ((a ≡ at) × (n ≡ number)))
row_added_at old grown new place at number given e same lt is all =
    subst (λ k. (a n : ℕ) → IsIn (row new a) n ↔ (IsIn (row old a) n ⊎ ((a ≡ k) × (n ≡ number)))) e (row_added old grown new place number given same lt is all)

-- a row that is read
pub row_read : (rows : List (List ℕ)) (at : ℕ) (x : List ℕ) → at < length rows → x ≡ get_or rows at x → row rows at ≡ x
row_read rows at x lt e = ap (λ o. unwrap_or o []) (slice_get_read rows (length rows) at x refl lt e)

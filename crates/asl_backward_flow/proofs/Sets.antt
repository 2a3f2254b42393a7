-- Sets in the order of insertion, by places.
use Rattle.std.proofs.Common.{◌≡◌, ◌⊎◌, ⊎_elim, if◌then◌else◌, ℕ, zero, suc, ◌+◌, ◌<◌, ◌≤◌, Bool, true, false, List, [], ◌∷◌, ◌++◌, Some, length, slice_get, unwrap_or, inl, inr, refl, ap, sym, subst, ◌∙◌, arith, length-append}
use Rattle.std.specs.List.{list_any, IsDistinct}
use Rattle.std.proofs.lemmas.Option.{slice_get_within, get_or_from_slice_get}
use Rattle.std.proofs.lemmas.Map.Keys.{apart_from_distinct}
use Rattle.std.proofs.lemmas.Bool.{cases_lt}
use Rattle.indexmap.specs.IndexSet.{insert_key}
use Rattle.asl_code.specs.declared.lock.Lock.{Lock}
use Rattle.asl_backward_flow.specs.Found.{Numbers}

module _ {A : Type 0} where
  pub some_same : {x y : A} → Some x ≡ Some y → x ≡ y
  some_same {x} {y} e = ap (λ o. unwrap_or o x) e

  -- what stands in a list stands there with more after it
  pub at_front : (xs ys : List A) (n : ℕ) (x : A) → slice_get xs n ≡ Some x → slice_get (xs ++ ys) n ≡ Some x
  at_front [] ys n x e = absurd cc
  at_front (y ∷ xs) ys zero x e = e
  at_front (y ∷ xs) ys (suc n) x e = at_front xs ys n x e

  -- what stands in a list with one more is of the list, or is that one
  pub at_push : (xs : List A) (y : A) (n : ℕ) (x : A) → slice_get (xs ++ y ∷ []) n ≡ Some x → slice_get xs n ≡ Some x ⊎ (x ≡ y)
  at_push [] y zero x e = inr (sym (some_same e))
  at_push [] y (suc n) x e = absurd cc
  at_push (z ∷ xs) y zero x e = inl e
  at_push (z ∷ xs) y (suc n) x e = at_push xs y n x e

  -- the same, with the place of that one
  pub at_end : (xs : List A) (y : A) (n : ℕ) (x : A) → slice_get (xs ++ y ∷ []) n ≡ Some x → slice_get xs n ≡ Some x ⊎ ((n ≡ length xs) × (x ≡ y))
  at_end [] y zero x e = inr (refl, sym (some_same e))
  at_end [] y (suc n) x e = absurd cc
  at_end (z ∷ xs) y zero x e = inl e
  at_end (z ∷ xs) y (suc n) x e = ⊎_elim (λ h. inl h) (λ h. inr (ap suc h.0, h.1)) (at_end xs y n x e)

  pub at_last : (xs : List A) (y : A) → slice_get (xs ++ y ∷ []) (length xs) ≡ Some y
  at_last [] y = refl
  at_last (z ∷ xs) y = at_last xs y

  module _ (eq : A → A → Bool) where
    kept_by : (b : Bool) (xs : List A) (y : A) (n : ℕ) (x : A) → slice_get xs n ≡ Some x → slice_get (if b then xs else xs ++ y ∷ []) n ≡ Some x
    kept_by true xs y n x e = e
    kept_by false xs y n x e = at_front xs (y ∷ []) n x e

    pub insert_kept : (xs : List A) (y : A) (n : ℕ) (x : A) → slice_get xs n ≡ Some x → slice_get (insert_key eq xs y) n ≡ Some x
    insert_kept xs y n x e = kept_by (list_any (eq y) xs) xs y n x e

    only_by : (b : Bool) (xs : List A) (y : A) (n : ℕ) (x : A) → slice_get (if b then xs else xs ++ y ∷ []) n ≡ Some x → slice_get xs n ≡ Some x ⊎ (x ≡ y)
    only_by true xs y n x e = inl e
    only_by false xs y n x e = at_push xs y n x e

    pub insert_only : (xs : List A) (y : A) (n : ℕ) (x : A) → slice_get (insert_key eq xs y) n ≡ Some x → slice_get xs n ≡ Some x ⊎ (x ≡ y)
    insert_only xs y n x e = only_by (list_any (eq y) xs) xs y n x e

    longer_by : (b : Bool) (xs : List A) (y : A) → length (if b then xs else xs ++ y ∷ []) ≤ length xs + 1
    longer_by true xs y = omega arith
    longer_by false xs y = omega (arith, length-append xs (y ∷ []))

    pub insert_longer : (xs : List A) (y : A) → length (insert_key eq xs y) ≤ length xs + 1
    insert_longer xs y = longer_by (list_any (eq y) xs) xs y

    -- where no key is equal to another, no two places have one key
    pub distinct_apart : ((x : A) → eq x x ≡ true) → (xs : List A) → IsDistinct eq xs → (m n : ℕ) (x : A) → slice_get xs m ≡ Some x → slice_get xs n ≡ Some x → m ≡ n
    distinct_apart itself xs d m n x at_m at_n = ⊎_elim (λ lt. absurd (differ m n lt at_m at_n)) (λ ge. ⊎_elim (λ lt. absurd (differ n m lt at_n at_m)) (λ le. omega arith) (cases_lt n m)) (cases_lt m n)
      where
        differ : (i j : ℕ) → i < j → slice_get xs i ≡ Some x → slice_get xs j ≡ Some x → ⊥
        differ i j lt at_i at_j =
            let no = apart_from_distinct eq xs i j x d lt (slice_get_within xs j x at_j) in
            let left = get_or_from_slice_get xs i x x at_i in
            let right = get_or_from_slice_get xs j x x at_j in
            let yes = itself x in
            cc

-- the numbers of locks after one more is put in
pub made_numbers : (eq : Lock → Lock → Bool) → ((x : Lock) → eq x x ≡ true) → (old new : List Lock) (lock : Lock) → new ≡ insert_key eq old lock → IsDistinct eq new → Numbers old new (λ m. m ≡ lock)
made_numbers eq itself old new lock is distinct = record {
  kept = λ n m e. ap (λ l. slice_get l n) is ∙ insert_kept eq old lock n m e;
  only = λ n m e. insert_only eq old lock n m (ap (λ l. slice_get l n) (sym is) ∙ e);
  apart = distinct_apart eq itself new distinct;
  longer = subst (λ l. length l ≤ length old + 1) (sym is) (insert_longer eq old lock);
}

pub same_numbers : (eq : Lock → Lock → Bool) → ((x : Lock) → eq x x ≡ true) → (old new : List Lock) (lock : Lock) → new ≡ old → IsDistinct eq new → Numbers old new (λ m. m ≡ lock)
same_numbers eq itself old new lock is distinct = record {
  kept = λ n m e. ap (λ l. slice_get l n) is ∙ e;
  only = λ n m e. inl (ap (λ l. slice_get l n) (sym is) ∙ e);
  apart = distinct_apart eq itself new distinct;
  longer = subst (λ l. length l ≤ length old + 1) (sym is) (omega arith);
}

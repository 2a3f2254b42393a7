-- What is left of a list that a loop walks.
use Rattle.std.proofs.Common.{◌≡◌, ℕ, zero, suc, ◌+◌, List, [], ◌∷◌, ◌++◌, drop, Some, slice_get, sym, ap, ◌∙◌, add-one, append_assoc}

pub left_here : {A : Type 0} (xs : List A) (n : ℕ) (x : A) → slice_get xs n ≡ Some x → drop n xs ≡ x ∷ drop (suc n) xs
left_here [] n x e = absurd cc
left_here (y ∷ xs) zero x e = cc
left_here (y ∷ xs) (suc n) x e = left_here xs n x e

-- where the element at the place was added to those before it, the rest are left
pub pushed_left : {A : Type 0} (xs old new all : List A) (n : ℕ) (x : A) → slice_get xs n ≡ Some x → new ≡ old ++ x ∷ [] → old ++ drop n xs ≡ all → new ++ drop (n + 1) xs ≡ all
pushed_left {A} xs old new all n x here grows so_far =
    ap (λ (l : List A). l ++ drop (n + 1) xs) grows
    ∙ append_assoc old (x ∷ []) (drop (n + 1) xs)
    ∙ ap (λ (k : ℕ). old ++ x ∷ drop k xs) (add-one n)
    ∙ ap (λ (l : List A). old ++ l) (sym (left_here xs n x here))
    ∙ so_far

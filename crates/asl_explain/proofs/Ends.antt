-- Lists with one more at the end.
use Rattle.std.proofs.Common.{◌≡◌, ◌+◌, ◌⊎◌, ⊎_elim, ℕ, zero, suc, List, [], ◌∷◌, ◌++◌, length, map, Some, slice_get, inl, inr, refl, ap, subst, arith}

module _ {X : Type 0} where
  pub get_more : (xs : List X) (y : X) (n : ℕ) (x : X) → slice_get (xs ++ y ∷ []) n ≡ Some x → (slice_get xs n ≡ Some x) ⊎ ((n ≡ length xs) × (y ≡ x))
  get_more [] y zero x e = inr (refl, cc)
  get_more [] y (suc n) x e = cc
  get_more (z ∷ xs) y zero x e = inl e
  get_more (z ∷ xs) y (suc n) x e = elim (get_more xs y n x e) [ inl h ↦ inl h | inr h ↦ (let same = h.0 in inr (omega (arith, same), h.1)) ]

  pub at_old : (xs : List X) (y : X) (n : ℕ) (x : X) → slice_get xs n ≡ Some x → slice_get (xs ++ y ∷ []) n ≡ Some x
  at_old [] y n x e = cc
  at_old (z ∷ xs) y zero x e = e
  at_old (z ∷ xs) y (suc n) x e = at_old xs y n x e

  pub at_end : (xs : List X) (y : X) → slice_get (xs ++ y ∷ []) (length xs) ≡ Some y
  at_end [] y = refl
  at_end (z ∷ xs) y = at_end xs y

  pub length_more : (xs : List X) (y : X) → length (xs ++ y ∷ []) ≡ length xs + 1
  length_more [] y = omega arith
  length_more (z ∷ xs) y = let r = length_more xs y in omega (arith, r)

  -- what holds of each, and of one more
  pub all_more : (P : X → Type 0) (xs : List X) (y : X) → ((n : ℕ) (x : X) → slice_get xs n ≡ Some x → P x) → P y → (n : ℕ) (x : X) → slice_get (xs ++ y ∷ []) n ≡ Some x → P x
  all_more P xs y all one n x at = ⊎_elim (λ h. all n x h) (λ h. subst P h.1 one) (get_more xs y n x at)

pub map_more : {X Y : Type 0} (f : X → Y) (xs : List X) (y : X) → map f (xs ++ y ∷ []) ≡ map f xs ++ f y ∷ []
map_more f [] y = refl
map_more f (x ∷ xs) y = ap (λ ys. f x ∷ ys) (map_more f xs y)

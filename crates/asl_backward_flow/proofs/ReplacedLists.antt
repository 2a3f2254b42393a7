-- Lists of which one is replaced by another.
use Rattle.std.proofs.Common.{◌≡◌, ◌≢◌, ⊎_elim, ℕ, zero, suc, ◌<◌, List, [], ◌∷◌, length, map, slice_set, refl, ap, sym, subst, get_or, arith}
use Rattle.std.proofs.lemmas.Bool.Decides.{eqb_tells}
use Rattle.asl_backward_flow.specs.Found.{list_at}

module _ {A : Type 0} where
  pub list_here : (lists : List (List A)) (p : ℕ) (new : List A) → p < length lists → list_at (slice_set lists p new) p ≡ new
  list_here [] p new h = absurd (omega arith)
  list_here (l ∷ ls) zero new h = refl
  list_here (l ∷ ls) (suc p) new h = list_here ls p new (omega arith)

  pub list_else : (lists : List (List A)) (p q : ℕ) (new : List A) → q ≢ p → list_at (slice_set lists p new) q ≡ list_at lists q
  list_else [] p q new h = refl
  list_else (l ∷ ls) zero zero new h = absurd (h refl)
  list_else (l ∷ ls) zero (suc q) new h = refl
  list_else (l ∷ ls) (suc p) zero new h = refl
  list_else (l ∷ ls) (suc p) (suc q) new h = list_else ls p q new (λ e. h (ap suc e))

  -- a fact of each list from one of the list before
  pub list_each : (lists : List (List A)) (p : ℕ) (new : List A) → p < length lists → (P : ℕ → List A → Type 0) → P p new → ((q : ℕ) → q ≢ p → P q (list_at lists q)) → (q : ℕ) → P q (list_at (slice_set lists p new) q)
  list_each lists p new there P here rest q =
      ⊎_elim
      (λ t. subst (λ r. P r (list_at (slice_set lists p new) r)) (sym t.1) (subst (P p) (sym (list_here lists p new there)) here))
      (λ t. subst (P q) (sym (list_else lists p q new t.1)) (rest q t.1))
      (eqb_tells q p)

  pub list_of : {X : Type 0} (keys : X → List A) (items : List X) (p : ℕ) (d : X) → p < length items → list_at (map keys items) p ≡ keys (get_or items p d)
  list_of keys [] p d h = absurd (omega arith)
  list_of keys (x ∷ xs) zero d h = refl
  list_of keys (x ∷ xs) (suc p) d h = list_of keys xs p d (omega arith)

pub map_set : {A B : Type 0} (f : A → B) (xs : List A) (n : ℕ) (y : A) → map f (slice_set xs n y) ≡ slice_set (map f xs) n (f y)
map_set f [] n y = refl
map_set f (x ∷ xs) zero y = refl
map_set f (x ∷ xs) (suc n) y = ap (λ ys. f x ∷ ys) (map_set f xs n y)

pub map_same : {A B : Type 0} (f : A → B) (xs : List A) (n : ℕ) (y : A) → f y ≡ f (get_or xs n y) → map f (slice_set xs n y) ≡ map f xs
map_same f [] n y e = refl
map_same f (x ∷ xs) zero y e = ap (λ z. z ∷ map f xs) e
map_same f (x ∷ xs) (suc n) y e = ap (λ ys. f x ∷ ys) (map_same f xs n y e)

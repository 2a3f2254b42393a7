-- An element of a list, by recursion on the list.
use Rattle.std.proofs.Common.{◌≡◌, ◌⊎◌, inl, inr, List, [], ◌∷◌, ◌++◌, map, refl, ap, arith}
use Rattle.std.specs.List.{Contains}
use Rattle.std.proofs.lemmas.List.Elements.{Contains-append_right, Contains-append_cases, Contains-push_cases}

abbrev pub Among : {X : Type 0} → List X → X → Type 0
Among [] x = ⊥
Among (y ∷ ys) x = (y ≡ x) ⊎ Among ys x

none_contained : {X : Type 0} (x : X) → Contains [] x → ⊥
none_contained x h = let low = h.1 in omega arith

pub among : {X : Type 0} (xs : List X) (x : X) → Contains xs x → Among xs x
among [] x h = none_contained x h
among (y ∷ ys) x h =
    elim (Contains-append_cases (y ∷ []) ys x h) [
      | inl here ↦ elim (Contains-push_cases [] y x here) [ inl none ↦ absurd (none_contained x none) | inr same ↦ inl same ]
      | inr there ↦ inr (among ys x there)
    ]

pub contained : {X : Type 0} (xs : List X) (x : X) → Among xs x → Contains xs x
contained [] x h = absurd h
contained (y ∷ ys) x (inl same) = (0, omega arith, same)
contained (y ∷ ys) x (inr there) = Contains-append_right (y ∷ []) ys x (contained ys x there)

pub among_left : {X : Type 0} (xs ys : List X) (x : X) → Among xs x → Among (xs ++ ys) x
among_left [] ys x h = absurd h
among_left (z ∷ xs) ys x (inl same) = inl same
among_left (z ∷ xs) ys x (inr there) = inr (among_left xs ys x there)

pub among_right : {X : Type 0} (xs ys : List X) (x : X) → Among ys x → Among (xs ++ ys) x
among_right [] ys x h = h
among_right (z ∷ xs) ys x h = inr (among_right xs ys x h)

pub among_either : {X : Type 0} (xs ys : List X) (x : X) → Among (xs ++ ys) x → Among xs x ⊎ Among ys x
among_either [] ys x h = inr h
among_either (z ∷ xs) ys x (inl same) = inl (inl same)
among_either (z ∷ xs) ys x (inr there) =
    elim (among_either xs ys x there) [ inl left ↦ inl (inr left) | inr right ↦ inr right ]

pub among_mapped : {X Y : Type 0} (f : X → Y) (xs : List X) (x : X) → Among xs x → Among (map f xs) (f x)
among_mapped f [] x h = h
among_mapped f (z ∷ xs) x (inl same) = inl (ap f same)
among_mapped f (z ∷ xs) x (inr there) = inr (among_mapped f xs x there)

pub mapped_from : {X Y : Type 0} (f : X → Y) (xs : List X) (y : Y) → Among (map f xs) y → (x : X) × Among xs x × (f x ≡ y)
mapped_from f [] y h = absurd h
mapped_from f (z ∷ xs) y (inl same) = (z, inl refl, same)
mapped_from f (z ∷ xs) y (inr there) = (let k = mapped_from f xs y there in (k.0, inr k.1, k.2))

-- Those of a list that pass a test, and numbered lists.
use Rattle.std.proofs.Common.{◌≡◌, ◌+◌, ◌<◌, ℕ, suc, List, [], ◌∷◌, ◌++◌, Bool, true, false, length, map, take, get_or, append-nil, refl, ap, ◌∙◌}
use Rattle.std.specs.List.{filter, flat_map}
use Rattle.std.proofs.lemmas.List.{take_more, map-append}
use Rattle.std.proofs.lemmas.List.Elements.{filter-append}
use Rattle.std.proofs.lemmas.Grind.{flat_map-append}
use Rattle.asl_class_text.specs.Numbered.{numbered}

one_yes : {A : Type 0} (p : A → Bool) (x : A) → p x ≡ true → filter p (x ∷ []) ≡ x ∷ []
one_yes p x h = rw h refl

one_no : {A : Type 0} (p : A → Bool) (x : A) → p x ≡ false → filter p (x ∷ []) ≡ []
one_no p x h = rw h refl

-- an element that passes
pub filter_yes : {A : Type 0} (p : A → Bool) (xs : List A) (i : ℕ) (d x : A) → i < length xs → get_or xs i d ≡ x → p x ≡ true → filter p (take (i + 1) xs) ≡ filter p (take i xs) ++ x ∷ []
filter_yes {A} p xs i d x low is passes =
    ap (filter p) (take_more xs i d low ∙ ap (λ y. take i xs ++ y ∷ []) is) ∙ filter-append p (take i xs) (x ∷ []) ∙ ap (λ (l : List A). filter p (take i xs) ++ l) (one_yes p x passes)

-- one that does not
pub filter_no : {A : Type 0} (p : A → Bool) (xs : List A) (i : ℕ) (d x : A) → i < length xs → get_or xs i d ≡ x → p x ≡ false → filter p (take (i + 1) xs) ≡ filter p (take i xs)
filter_no {A} p xs i d x low is fails =
    ap (filter p) (take_more xs i d low ∙ ap (λ y. take i xs ++ y ∷ []) is)
    ∙ filter-append p (take i xs) (x ∷ [])
    ∙ ap (λ (l : List A). filter p (take i xs) ++ l) (one_no p x fails)
    ∙ append-nil (filter p (take i xs))

-- the image of one element more
pub map_more : {A B : Type 0} (f : A → B) (xs : List A) (i : ℕ) (d x : A) → i < length xs → get_or xs i d ≡ x → map f (take (i + 1) xs) ≡ map f (take i xs) ++ f x ∷ []
map_more f xs i d x low is = ap (map f) (take_more xs i d low ∙ ap (λ y. take i xs ++ y ∷ []) is) ∙ map-append f (take i xs) (x ∷ [])

-- what is made of one element more
pub flat_map_more : {A B : Type 0} (f : A → List B) (xs : List A) (i : ℕ) (d x : A) → i < length xs → get_or xs i d ≡ x → flat_map f (take (i + 1) xs) ≡ flat_map f (take i xs) ++ f x
flat_map_more {A} {B} f xs i d x low is =
    ap (flat_map f) (take_more xs i d low ∙ ap (λ y. take i xs ++ y ∷ []) is) ∙ flat_map-append f (take i xs) (x ∷ []) ∙ ap (λ (l : List B). flat_map f (take i xs) ++ l) (append-nil (f x))

-- a numbered list of an image
pub numbered_map : {A B C : Type 0} (made : ℕ → B → List C) (f : A → B) (n : ℕ) (xs : List A) → numbered (λ k x. made k (f x)) n xs ≡ numbered made n (map f xs)
numbered_map made f n [] = refl
numbered_map {A} {B} {C} made f n (x ∷ xs) = ap (λ (l : List C). made n (f x) ++ l) (numbered_map made f (suc n) xs)

-- a list of an image
pub flat_map_map : {A B C : Type 0} (made : B → List C) (f : A → B) (xs : List A) → flat_map (λ x. made (f x)) xs ≡ flat_map made (map f xs)
flat_map_map made f [] = refl
flat_map_map {A} {B} {C} made f (x ∷ xs) = ap (λ (l : List C). made (f x) ++ l) (flat_map_map made f xs)

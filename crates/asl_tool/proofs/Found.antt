-- What is made of names, one after the other.
use Rattle.std.proofs.Common.{◌≡◌, ℕ, suc, ◌+◌, ◌<◌, List, [], ◌∷◌, ◌++◌, drop, length, get_or, map, sym, ap, ◌∙◌, append_assoc, add-one, drop-cons}
use Rattle.std.proofs.lemmas.List.{map-append}

-- one more is made, and those that are left are what is made of the rest
module _ {A B C D : Type 0} (seen : B → D) (read : A → C) (made : C → D) where
  pub one_more : (xs : List A) (i : ℕ) (x : A) (old new : List B) (y : B) → i < length xs → x ≡ get_or xs i x → new ≡ old ++ y ∷ [] → seen y ≡ made (read x)
      → map seen old ++ map made (map read (drop i xs)) ≡ map made (map read xs) → map seen new ++ map made (map read (drop (i + 1) xs)) ≡ map made (map read xs)
  one_more xs i x old new y lt at w is h =
      let next : drop i xs ≡ x ∷ drop (i + 1) xs = rw add-one (drop-cons xs i x lt ∙ ap (λ (z : A). z ∷ drop (suc i) xs) (sym at)) in
      let rest : List D = map made (map read (drop (i + 1) xs)) in
      ap (λ (l : List B). map seen l ++ rest) w
      ∙ ap (λ (l : List D). l ++ rest) (map-append seen old (y ∷ []))
      ∙ append_assoc (map seen old) (seen y ∷ []) rest
      ∙ ap (λ (d : D). map seen old ++ d ∷ rest) is
      ∙ ap (λ (l : List A). map seen old ++ map made (map read l)) (sym next) ∙ h

-- the same, where they are made in one go
module _ {A B D : Type 0} (seen : B → D) (made : A → D) where
  pub one_more_made : (xs : List A) (i : ℕ) (x : A) (old new : List B) (y : B) → i < length xs → x ≡ get_or xs i x → new ≡ old ++ y ∷ [] → seen y ≡ made x
      → map seen old ++ map made (drop i xs) ≡ map made xs → map seen new ++ map made (drop (i + 1) xs) ≡ map made xs
  one_more_made xs i x old new y lt at w is h =
      let next : drop i xs ≡ x ∷ drop (i + 1) xs = rw add-one (drop-cons xs i x lt ∙ ap (λ (z : A). z ∷ drop (suc i) xs) (sym at)) in
      let rest : List D = map made (drop (i + 1) xs) in
      ap (λ (l : List B). map seen l ++ rest) w
      ∙ ap (λ (l : List D). l ++ rest) (map-append seen old (y ∷ []))
      ∙ append_assoc (map seen old) (seen y ∷ []) rest
      ∙ ap (λ (d : D). map seen old ++ d ∷ rest) is
      ∙ ap (λ (l : List A). map seen old ++ map made l) (sym next) ∙ h

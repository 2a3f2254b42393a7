-- One more of the names that are left.
use Rattle.std.proofs.Common.{◌≡◌, ℕ, suc, ◌+◌, ◌<◌, List, [], ◌∷◌, ◌++◌, length, map, drop, get_or, ap, sym, ◌∙◌, add-one, append_assoc, drop-cons}

-- the list so far and the names left, at one of these
pub one_more : {A B : Type 0} (f : A → B) (xs : List A) (i : ℕ) (x : A) (old new all : List B) → i < length xs → x ≡ get_or xs i x → new ≡ old ++ f x ∷ [] → old ++ map f (drop i xs) ≡ all → new ++ map f (drop (i + 1) xs) ≡ all
one_more f xs i x old new all low same e h =
    let d : drop i xs ≡ x ∷ drop (i + 1) xs = drop-cons xs i x low ∙ ap (λ y. y ∷ drop (suc i) xs) (sym same) ∙ ap (λ n. x ∷ drop n xs) (sym (add-one i)) in
    ap (λ v. v ++ map f (drop (i + 1) xs)) e ∙ append_assoc old (f x ∷ []) (map f (drop (i + 1) xs)) ∙ sym (ap (λ v. old ++ map f v) d) ∙ h

-- What is made of each element of a list, and of its number.
use Rattle.std.specs.Prelude.{ℕ, suc, List, [], ◌∷◌, ◌++◌}

-- one after the other, where they are numbered from this number on
abbrev pub numbered : {A B : Type 0} → (ℕ → A → List B) → ℕ → List A → List B
numbered made n [] = []
numbered made n (x ∷ xs) = made n x ++ numbered made (suc n) xs

-- Whether an element of a list passes a test, as a loop finds it.
use Rattle.std.proofs.Common.{◌≡◌, ℕ, ◌+◌, ◌<◌, ◌≤◌, List, Bool, true, false, ◌||◌, length, drop, get_or, refl, sym, ◌∙◌}
use Rattle.std.specs.List.{list_any}
use Rattle.std.proofs.lemmas.List.{at_drop_more, at_drop_all}

or_true : (b c : Bool) → b ≡ true → (b || c) ≡ true
or_true true c h = refl
or_true false c h = cc

or_false : (b c : Bool) → b ≡ false → (b || c) ≡ c
or_false true c h = cc
or_false false c h = refl

next_any : {A : Type 0} (p : A → Bool) (xs : List A) (n : ℕ) (d : A) → n < length xs → list_any p (drop n xs) ≡ (p (get_or xs n d) || list_any p (drop (n + 1) xs))
next_any {A} p xs n d low = at_drop_more (λ (l : List A). list_any p l) xs n d low

pub any_more : {A : Type 0} (p : A → Bool) (xs : List A) (n : ℕ) (d : A) → n < length xs → p (get_or xs n d) ≡ false → list_any p (drop n xs) ≡ list_any p xs → list_any p (drop (n + 1) xs) ≡ list_any p xs
any_more p xs n d low is so = sym (next_any p xs n d low ∙ or_false (p (get_or xs n d)) (list_any p (drop (n + 1) xs)) is) ∙ so

pub any_here : {A : Type 0} (p : A → Bool) (xs : List A) (n : ℕ) (d : A) → n < length xs → p (get_or xs n d) ≡ true → list_any p (drop n xs) ≡ list_any p xs → true ≡ list_any p xs
any_here p xs n d low is so = sym (next_any p xs n d low ∙ or_true (p (get_or xs n d)) (list_any p (drop (n + 1) xs)) is) ∙ so

pub any_none : {A : Type 0} (p : A → Bool) (xs : List A) (n : ℕ) → length xs ≤ n → list_any p (drop n xs) ≡ list_any p xs → false ≡ list_any p xs
any_none {A} p xs n past so = sym (at_drop_all (λ (l : List A). list_any p l) xs n past) ∙ so

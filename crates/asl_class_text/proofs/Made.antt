-- What loops make of the elements of a list: of those so far, and then of those that are left.
use Rattle.std.proofs.Common.{◌≡◌, ℕ, suc, ◌+◌, ◌<◌, ◌≤◌, List, ◌++◌, length, drop, get_or, refl, sym, ap, ◌∙◌, append_assoc, append-nil, add-one}
use Rattle.std.specs.List.{flat_map}
use Rattle.std.proofs.lemmas.List.{at_drop_more, at_drop_all}
use Rattle.asl_class_text.specs.Numbered.{numbered}

-- what is made so far, and then of what is left, is what was there and what is made of all
pub record Made {A B : Type 0} (made : ℕ → A → List B) (xs : List A) (n : ℕ) (first now : List B) : Type 0 where
  pub all : now ++ numbered made n (drop n xs) ≡ first ++ numbered made 0 xs

pub none_made : {A B : Type 0} (made : ℕ → A → List B) (xs : List A) (first now : List B) → now ≡ first → Made made xs 0 first now
none_made made xs first now is = record { all = ap (λ l. l ++ numbered made 0 xs) is }

pub more_made : {A B : Type 0} (made : ℕ → A → List B) (xs : List A) (n : ℕ) (d x : A) (first old new : List B) → n < length xs → x ≡ get_or xs n d → new ≡ old ++ made n x → Made made xs n first old → Made made xs (n + 1) first new
more_made {A} {B} made xs n d x first old new low is grows t =
    let step : numbered made n (drop n xs) ≡ made n x ++ numbered made (n + 1) (drop (n + 1) xs) =
    at_drop_more (λ (l : List A). numbered made n l) xs n d low
    ∙ ap (λ (y : A). made n y ++ numbered made (suc n) (drop (n + 1) xs)) (sym is)
    ∙ ap (λ (k : ℕ). made n x ++ numbered made k (drop (n + 1) xs)) (sym (add-one n)) in
    record {
      all = ap (λ (l : List B). l ++ numbered made (n + 1) (drop (n + 1) xs)) grows
          ∙ append_assoc old (made n x) (numbered made (n + 1) (drop (n + 1) xs))
          ∙ ap (λ (l : List B). old ++ l) (sym step)
          ∙ t.all;
    }

pub all_made : {A B : Type 0} (made : ℕ → A → List B) (xs : List A) (n : ℕ) (first now : List B) → length xs ≤ n → Made made xs n first now → now ≡ first ++ numbered made 0 xs
all_made {A} {B} made xs n first now past t =
    sym (append-nil now) ∙ ap (λ (l : List B). now ++ l) (sym (at_drop_all (λ (l : List A). numbered made n l) xs n past)) ∙ t.all

-- ---- the same without numbers

pub record Flat {A B : Type 0} (made : A → List B) (xs : List A) (n : ℕ) (first now : List B) : Type 0 where
  pub all : now ++ flat_map made (drop n xs) ≡ first ++ flat_map made xs

pub none_flat : {A B : Type 0} (made : A → List B) (xs : List A) (first : List B) → Flat made xs 0 first first
none_flat made xs first = record { all = refl }

pub more_flat : {A B : Type 0} (made : A → List B) (xs : List A) (n : ℕ) (d x : A) (first old new : List B) → n < length xs → x ≡ get_or xs n d → new ≡ old ++ made x → Flat made xs n first old → Flat made xs (n + 1) first new
more_flat {A} {B} made xs n d x first old new low is grows t =
    let step : flat_map made (drop n xs) ≡ made x ++ flat_map made (drop (n + 1) xs) =
    at_drop_more (λ (l : List A). flat_map made l) xs n d low
    ∙ ap (λ (y : A). made y ++ flat_map made (drop (n + 1) xs)) (sym is) in
    record {
      all = ap (λ (l : List B). l ++ flat_map made (drop (n + 1) xs)) grows
          ∙ append_assoc old (made x) (flat_map made (drop (n + 1) xs))
          ∙ ap (λ (l : List B). old ++ l) (sym step)
          ∙ t.all;
    }

pub all_flat : {A B : Type 0} (made : A → List B) (xs : List A) (n : ℕ) (first now : List B) → length xs ≤ n → Flat made xs n first now → now ≡ first ++ flat_map made xs
all_flat {A} {B} made xs n first now past t =
    sym (append-nil now) ∙ ap (λ (l : List B). now ++ l) (sym (at_drop_all (λ (l : List A). flat_map made l) xs n past)) ∙ t.all

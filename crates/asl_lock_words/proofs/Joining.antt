-- What loops join of the elements of a list: of those so far, and then of those that are left.
use Rattle.std.proofs.Common.{◌≡◌, ℕ, ◌+◌, ◌<◌, ◌≤◌, List, ◌++◌, length, drop, get_or, refl, sym, ap, ◌∙◌, append_assoc, append-nil}
use Rattle.std.specs.List.{flat_map}
use Rattle.std.proofs.lemmas.List.{at_drop_more, at_drop_all}

-- what is joined so far, and then what is left, is what was there and all
pub record Joined {A B : Type 0} (made : A → List B) (xs : List A) (n : ℕ) (first now : List B) : Type 0 where
  pub all : now ++ flat_map made (drop n xs) ≡ first ++ flat_map made xs

pub none_joined : {A B : Type 0} (made : A → List B) (xs : List A) (first : List B) → Joined made xs 0 first first
none_joined made xs first = record { all = refl }

pub more_joined : {A B : Type 0} (made : A → List B) (xs : List A) (n : ℕ) (d x : A) (first old new : List B) → n < length xs → x ≡ get_or xs n d → new ≡ old ++ made x → Joined made xs n first old → Joined made xs (n + 1) first new
more_joined {A} {B} made xs n d x first old new low is grows t =
    let step : flat_map made (drop n xs) ≡ made x ++ flat_map made (drop (n + 1) xs) =
    at_drop_more (λ (l : List A). flat_map made l) xs n d low
    ∙ ap (λ (y : A). made y ++ flat_map made (drop (n + 1) xs)) (sym is) in
    record {
      all = ap (λ (l : List B). l ++ flat_map made (drop (n + 1) xs)) grows
          ∙ append_assoc old (made x) (flat_map made (drop (n + 1) xs))
          ∙ ap (λ (l : List B). old ++ l) (sym step)
          ∙ t.all;
    }

pub all_joined : {A B : Type 0} (made : A → List B) (xs : List A) (n : ℕ) (first now : List B) → length xs ≤ n → Joined made xs n first now → now ≡ first ++ flat_map made xs
all_joined {A} {B} made xs n first now past t =
    sym (append-nil now) ∙ ap (λ (l : List B). now ++ l) (sym (at_drop_all (λ (l : List A). flat_map made l) xs n past)) ∙ t.all

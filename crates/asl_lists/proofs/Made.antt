-- What loops make of the elements of a list: of those so far, and then of those that are left.
use Rattle.std.proofs.Common.{◌≡◌, ℕ, suc, ◌+◌, ◌-◌, ◌<◌, ◌≤◌, List, [], ◌∷◌, ◌++◌, length, drop, get_or, refl, sym, ap, ◌∙◌, append_assoc, append-nil, add-one, arith}
use Rattle.std.specs.List.{flat_map}
use Rattle.std.proofs.lemmas.List.{at_drop_more, at_drop_all}
use Rattle.asl_lists.specs.Numbered.{numbered}
use Rattle.asl_lists.specs.declared.facts.Facts.{Facts}
use Rattle.asl_lists.specs.Document.{class_data, classes_from}
use Rattle.serde_json.specs.Data.{Data}

-- what is made so far, and then of what is left, is what was there and what is made of all
pub record Made {A B : Type 0} (made : ℕ → A → List B) (xs : List A) (n : ℕ) (first now : List B) : Type 0 where
  pub all : now ++ numbered made n (drop n xs) ≡ first ++ numbered made 0 xs

pub none_made : {A B : Type 0} (made : ℕ → A → List B) (xs : List A) (first now : List B) → now ≡ first → Made made xs 0 first now
none_made made xs first now is = record { all = ap (λ l. l ++ numbered made 0 xs) is }

pub more_made : {A B : Type 0} (made : ℕ → A → List B) (xs : List A) (n : ℕ) (d x : A) (first old new : List B) → n < length xs → x ≡ get_or xs n d → new ≡ old ++ made n x → Made made xs n first old → Made made xs (n + 1) first new
more_made {A} {B} made xs n d x first old new low is grows t =
    let step : numbered made n (drop n xs) ≡ made n x ++ numbered made (n + 1) (drop (n + 1) xs) =
    at_drop_more (λ (l : List A). numbered made n l) xs n d low
    ∙ ap (λ (y : A). made n y ++ numbered made (suc n) (drop (n + 1) xs)) (sym is)
    ∙ ap (λ (k : ℕ). made n x ++ numbered made k (drop (n + 1) xs)) (sym (add-one n)) in
    record {
      all = ap (λ (l : List B). l ++ numbered made (n + 1) (drop (n + 1) xs)) grows
          ∙ append_assoc old (made n x) (numbered made (n + 1) (drop (n + 1) xs))
          ∙ ap (λ (l : List B). old ++ l) (sym step)
          ∙ t.all;
    }

some_of : {A : Type 0} (xs : List A) (n : ℕ) → n < length xs → A
some_of [] n low = absurd (omega (arith, low))
some_of (x ∷ xs) n low = x

-- so where the same is made of each element
pub more_same : {A B : Type 0} (made : ℕ → A → List B) (xs : List A) (n : ℕ) (first old new : List B) → n < length xs → ((x : A) → new ≡ old ++ made n x) → Made made xs n first old → Made made xs (n + 1) first new
more_same {A} {B} made xs n first old new low grows t =
    let d : A = some_of xs n low in
    more_made made xs n d (get_or xs n d) first old new low refl (grows (get_or xs n d)) t

pub all_made : {A B : Type 0} (made : ℕ → A → List B) (xs : List A) (n : ℕ) (first now : List B) → length xs ≤ n → Made made xs n first now → now ≡ first ++ numbered made 0 xs
all_made {A} {B} made xs n first now past t =
    sym (append-nil now) ∙ ap (λ (l : List B). now ++ l) (sym (at_drop_all (λ (l : List A). numbered made n l) xs n past)) ∙ t.all

-- ---- the same without numbers

pub record Flat {A B : Type 0} (made : A → List B) (xs : List A) (n : ℕ) (now : List B) : Type 0 where
  pub all : now ++ flat_map made (drop n xs) ≡ flat_map made xs

pub none_flat : {A B : Type 0} (made : A → List B) (xs : List A) (now : List B) → now ≡ [] → Flat made xs 0 now
none_flat made xs now is = record { all = ap (λ l. l ++ flat_map made xs) is }

pub more_flat : {A B : Type 0} (made : A → List B) (xs : List A) (n : ℕ) (d x : A) (old new : List B) → n < length xs → x ≡ get_or xs n d → new ≡ old ++ made x → Flat made xs n old → Flat made xs (n + 1) new
more_flat {A} {B} made xs n d x old new low is grows t =
    let step : flat_map made (drop n xs) ≡ made x ++ flat_map made (drop (n + 1) xs) =
    at_drop_more (λ (l : List A). flat_map made l) xs n d low
    ∙ ap (λ (y : A). made y ++ flat_map made (drop (n + 1) xs)) (sym is) in
    record {
      all = ap (λ (l : List B). l ++ flat_map made (drop (n + 1) xs)) grows
          ∙ append_assoc old (made x) (flat_map made (drop (n + 1) xs))
          ∙ ap (λ (l : List B). old ++ l) (sym step)
          ∙ t.all;
    }

pub all_flat : {A B : Type 0} (made : A → List B) (xs : List A) (n : ℕ) (now : List B) → length xs ≤ n → Flat made xs n now → now ≡ flat_map made xs
all_flat {A} {B} made xs n now past t =
    sym (append-nil now) ∙ ap (λ (l : List B). now ++ l) (sym (at_drop_all (λ (l : List A). flat_map made l) xs n past)) ∙ t.all

-- ---- classes

pub record Classed (f : Facts) (n end : ℕ) (now : List Data) : Type 0 where
  pub all : now ++ classes_from f n (end - n) ≡ classes_from f 0 end

left_step : (f : Facts) (n end : ℕ) → n < end → classes_from f n (end - n) ≡ class_data f n ∷ classes_from f (n + 1) (end - (n + 1))
unfolding classes_from
left_step f n end lt =
    let gap : end - n ≡ suc (end - (n + 1)) = omega (arith, lt) in
    ap (classes_from f n) gap ∙ rw add-one refl

pub none_classed : (f : Facts) (end : ℕ) (now : List Data) → now ≡ [] → Classed f 0 end now
none_classed f end now is =
    let whole : end - 0 ≡ end = omega arith in
    record { all = ap (λ l. l ++ classes_from f 0 (end - 0)) is ∙ ap (classes_from f 0) whole }

pub more_classed : (f : Facts) (n end : ℕ) (old new : List Data) → n < end → new ≡ old ++ class_data f n ∷ [] → Classed f n end old → Classed f (n + 1) end new
more_classed f n end old new lt grows w = record {
  all = ap (λ (l : List Data). l ++ classes_from f (n + 1) (end - (n + 1))) grows
      ∙ append_assoc old (class_data f n ∷ []) (classes_from f (n + 1) (end - (n + 1)))
      ∙ ap (λ (l : List Data). old ++ l) (sym (left_step f n end lt))
      ∙ w.all;
}

pub all_classed : (f : Facts) (n end : ℕ) (now : List Data) → end ≤ n → Classed f n end now → now ≡ classes_from f 0 end
unfolding classes_from
all_classed f n end now le w =
    let none : end - n ≡ 0 = omega (arith, le) in
    sym (append-nil now) ∙ ap (λ (k : ℕ). now ++ classes_from f n k) (sym none) ∙ w.all

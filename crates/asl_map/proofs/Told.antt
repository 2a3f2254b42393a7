-- Texts of numbered things, as loops write them: those so far, and then those that are left.
use Rattle.std.proofs.Common.{◌≡◌, ℕ, suc, ◌+◌, ◌-◌, ◌<◌, ◌≤◌, List, ◌++◌, length, drop, get_or, refl, sym, ap, ◌∙◌, append_assoc, append-nil, add-one, arith}
use Rattle.std.proofs.lemmas.List.{at_drop_more, at_drop_all}
use Rattle.asl_map.specs.Text.{numbered, texts_from}

-- the text so far, and then the texts of what is left, are the first text and all texts
pub record Told {A : Type 0} (line : ℕ → A → List ℕ) (xs : List A) (n : ℕ) (first text : List ℕ) : Type 0 where
  pub all : text ++ numbered line n (drop n xs) ≡ first ++ numbered line 0 xs

pub none_told : {A : Type 0} (line : ℕ → A → List ℕ) (xs : List A) (first : List ℕ) → Told line xs 0 first first
none_told line xs first = record { all = refl }

pub more_told : {A : Type 0} (line : ℕ → A → List ℕ) (xs : List A) (n : ℕ) (d x : A) (first old new : List ℕ) → n < length xs → x ≡ get_or xs n d → new ≡ old ++ line n x → Told line xs n first old → Told line xs (n + 1) first new
more_told {A} line xs n d x first old new low is grows t =
    let step : numbered line n (drop n xs) ≡ line n x ++ numbered line (n + 1) (drop (n + 1) xs) =
    at_drop_more (λ (l : List A). numbered line n l) xs n d low
    ∙ ap (λ (y : A). line n y ++ numbered line (suc n) (drop (n + 1) xs)) (sym is)
    ∙ ap (λ (k : ℕ). line n x ++ numbered line k (drop (n + 1) xs)) (sym (add-one n)) in
    record {
      all = ap (λ (l : List ℕ). l ++ numbered line (n + 1) (drop (n + 1) xs)) grows
          ∙ append_assoc old (line n x) (numbered line (n + 1) (drop (n + 1) xs))
          ∙ ap (λ (l : List ℕ). old ++ l) (sym step)
          ∙ t.all;
    }

pub all_told : {A : Type 0} (line : ℕ → A → List ℕ) (xs : List A) (n : ℕ) (first text : List ℕ) → length xs ≤ n → Told line xs n first text → text ≡ first ++ numbered line 0 xs
all_told {A} line xs n first text past t =
    sym (append-nil text) ∙ ap (λ (l : List ℕ). text ++ l) (sym (at_drop_all (λ (l : List A). numbered line n l) xs n past)) ∙ t.all

-- ---- the same of so many numbers

pub record Written (text : ℕ → List ℕ) (n end : ℕ) (first now : List ℕ) : Type 0 where
  pub all : now ++ texts_from text n (end - n) ≡ first ++ texts_from text 0 end

left_step : (text : ℕ → List ℕ) (n end : ℕ) → n < end → texts_from text n (end - n) ≡ text n ++ texts_from text (n + 1) (end - (n + 1))
unfolding texts_from
left_step text n end lt =
    let gap : end - n ≡ suc (end - (n + 1)) = omega (arith, lt) in
    ap (texts_from text n) gap ∙ rw add-one refl

pub none_written : (text : ℕ → List ℕ) (end : ℕ) (first : List ℕ) → Written text 0 end first first
none_written text end first =
    let whole : end - 0 ≡ end = omega arith in
    record { all = ap (λ (k : ℕ). first ++ texts_from text 0 k) whole }

pub more_written : (text : ℕ → List ℕ) (n end : ℕ) (first old new : List ℕ) → n < end → new ≡ old ++ text n → Written text n end first old → Written text (n + 1) end first new
more_written text n end first old new lt grows w = record {
  all = ap (λ (l : List ℕ). l ++ texts_from text (n + 1) (end - (n + 1))) grows
      ∙ append_assoc old (text n) (texts_from text (n + 1) (end - (n + 1)))
      ∙ ap (λ (l : List ℕ). old ++ l) (sym (left_step text n end lt))
      ∙ w.all;
}

pub all_written : (text : ℕ → List ℕ) (n end : ℕ) (first now : List ℕ) → end ≤ n → Written text n end first now → now ≡ first ++ texts_from text 0 end
unfolding texts_from
all_written text n end first now le w =
    let none : end - n ≡ 0 = omega (arith, le) in
    sym (append-nil now) ∙ ap (λ (k : ℕ). now ++ texts_from text n k) (sym none) ∙ w.all

-- Words that are numbers, one by one.
use Rattle.std.proofs.Common.{◌≡◌, ◌∙◌, ℕ, ◌<◌, ◌+◌, ◌++◌, take, List, [], ◌∷◌, length, map, ap, ap₂, refl, sym, subst, arith, slice_index_or}
use Rattle.std.specs.List.{All}
use Rattle.std.specs.Borrow.{Bor}
use Rattle.std.specs.Str.Parse.{digits_value}
use Rattle.std.proofs.lemmas.List.{get_or-map, length-map, map_push, take_more}
use Rattle.std.proofs.lemmas.List.Elements.{All-push}
use Rattle.clap.specs.Words.{Text}
use Rattle.clap.specs.Walk.{texts}
use Rattle.asl_command_line.specs.Number.{IsNumeric, IsNumber, AreNumbers}

-- none are none
pub no_numbers : (ns : List ℕ) → ns ≡ [] → AreNumbers [] ns
no_numbers ns e = record { numeric = λ k d lt. absurd (omega (arith, lt)); values = e }

-- one more
pub more_numbers : (ts : List (Bor Text)) (t : Bor Text) (ns : List ℕ) (n : ℕ) → AreNumbers (texts ts) ns → IsNumber t.now n
    → AreNumbers (texts (ts ++ t ∷ [])) (ns ++ n ∷ [])
more_numbers ts t ns n are is =
    let pushed : texts (ts ++ t ∷ []) ≡ texts ts ++ t.now ∷ [] = map_push (λ (s : Bor Text). s.now) ts t in
    record {
      numeric = subst (All IsNumeric) (sym pushed) (All-push IsNumeric (texts ts) t.now are.numeric is.numeric);
      values = ap₂ (λ (xs : List ℕ) (x : ℕ). xs ++ x ∷ []) are.values is.value ∙ (sym (map_push (digits_value 10) (texts ts) t.now) ∙ ap (map (digits_value 10)) (sym pushed));
    }

-- where one is none, they are none
pub one_is_none : (ts : List (Bor Text)) (i : ℕ) (d : Bor Text) → i < length ts
    → ((n : ℕ) → IsNumber (slice_index_or ts i d).now n → ⊥) → (ns : List ℕ) → AreNumbers (texts ts) ns → ⊥
one_is_none ts i d there none ns are =
    let at : slice_index_or (texts ts) i d.now ≡ (slice_index_or ts i d).now = get_or-map (λ (s : Bor Text). s.now) ts i d d.now there in
    none (digits_value 10 (slice_index_or ts i d).now) (record {
      numeric = subst IsNumeric at (are.numeric i d.now (omega (arith, there, length-map ts (λ (s : Bor Text). s.now))));
      value = refl;
    })

-- one more of a list's first texts
pub more_first_numbers : (ts : List (Bor Text)) (i : ℕ) (d : Bor Text) (ns new : List ℕ) (n : ℕ) → i < length ts → AreNumbers (texts (take i ts)) ns
    → IsNumber (slice_index_or ts i d).now n → new ≡ ns ++ n ∷ [] → AreNumbers (texts (take (i + 1) ts)) new
more_first_numbers ts i d ns new n there are is new_is =
    subst (λ (us : List (Bor Text)). AreNumbers (texts us) new) (sym (take_more ts i d there))
    (subst (AreNumbers (texts (take i ts ++ slice_index_or ts i d ∷ []))) (sym new_is) (more_numbers (take i ts) (slice_index_or ts i d) ns n are is))

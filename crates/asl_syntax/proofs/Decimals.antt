-- A printed number is read back.
use Rattle.std.proofs.Common.{◌≡◌, ℕ, ◌+◌, ◌-◌, ◌*◌, ◌<◌, List, [], ◌∷◌, IsTrue, ◌==◌, length, map, refl, sym, ap, ◌∙◌, arith}
use Rattle.std.specs.Int.Digits.{digits_of, number_from_digits_after, AllBelowBase}
use Rattle.std.proofs.lemmas.Bool.{cond_both, and_from, le-leb, eqb-true, eqb-false}
use Rattle.std.proofs.lemmas.Int.Digits.{number_digits_of, all_below_base_digits_of}
use Rattle.asl_grammar.specs.Lex.{is_digit, value_from, number_value, all_bytes}
use Rattle.asl_syntax.specs.Printed.{decimal}
use Rattle.asl_syntax.specs.Pieces.{digit_bytes}

-- digits of a number
pub record IsDecimal (n : ℕ) (ds : List ℕ) : Type 0 where
  pub digits : IsTrue (all_bytes is_digit ds)
  pub value : number_value ds ≡ n
  pub some : 0 < length ds

digits_pass : (ds : List ℕ) → AllBelowBase 10 ds → IsTrue (all_bytes is_digit (map (λ (d : ℕ). d + 48) ds))
digits_pass [] h = refl
digits_pass (d ∷ ds) h =
    let small : d < 10 = h.0 in
    and_from _ _ (and_from _ _ (le-leb 48 (d + 48) (omega arith)) (le-leb (d + 48) 57 (omega arith))) (digits_pass ds h.1)

value_digits : (n : ℕ) (ds : List ℕ) → value_from n (map (λ (d : ℕ). d + 48) ds) ≡ number_from_digits_after 10 n ds
value_digits n [] = refl
value_digits n (d ∷ ds) =
    let e : n * 10 + (d + 48 - 48) ≡ n * 10 + d = omega arith in
    ap (λ (m : ℕ). value_from m (map (λ (d : ℕ). d + 48) ds)) e ∙ value_digits (n * 10 + d) ds

some_digits : (n : ℕ) (ds : List ℕ) → number_value ds ≡ n → (n ≡ 0 → ⊥) → 0 < length ds
some_digits n [] e h = absurd (h (sym e))
some_digits n (d ∷ ds) e h = omega arith

digits_decimal : (n : ℕ) → (n ≡ 0 → ⊥) → IsDecimal n (digit_bytes n)
digits_decimal n h =
    let v : number_value (digit_bytes n) ≡ n = value_digits 0 (digits_of 10 n) ∙ number_digits_of 10 n (omega arith) in
    record {
      digits = digits_pass (digits_of 10 n) (all_below_base_digits_of 10 n (omega arith));
      value = v;
      some = some_digits n (digit_bytes n) v h;
    }

pub decimal_is : (n : ℕ) → IsDecimal n (decimal n)
decimal_is n =
    cond_both {A = List ℕ} (n == 0) (48 ∷ []) (digit_bytes n) (IsDecimal n)
    (λ e. record { digits = refl; value = sym (eqb-true n 0 e); some = omega arith })
    (λ e. digits_decimal n (eqb-false n 0 e))

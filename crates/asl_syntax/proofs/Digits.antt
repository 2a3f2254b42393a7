-- One more digit.
use Rattle.std.proofs.Common.{◌≡◌, ℕ, ◌+◌, ◌/◌, ◌%◌, ◌<◌, [], ◌∷◌, ◌++◌, ap, ◌∙◌, arith, map}
use Rattle.std.proofs.lemmas.List.{map-append}
use Rattle.std.specs.Int.Digits.{digits_of}
use Rattle.std.proofs.lemmas.Int.Digits.{digits_of_step}
use Rattle.asl_syntax.specs.Pieces.{digit_bytes}

pub digits_more : (n : ℕ) → 0 < n → digit_bytes n ≡ digit_bytes (n / 10) ++ ((n % 10 + 48) ∷ [])
digits_more n h =
    ap (map (λ (d : ℕ). d + 48)) (digits_of_step 10 n (omega arith) h)
    ∙ map-append (λ (d : ℕ). d + 48) (digits_of 10 (n / 10)) ((n % 10) ∷ [])

-- The digits of a number, written from the last to the first.
use Rattle.std.proofs.Common.{◌≡◌, ℕ, ◌+◌, ◌/◌, ◌%◌, ◌^◌, ◌<◌, ◌≤◌, true, false, List, [], ◌∷◌, ◌++◌, length, take, drop, ℤ, pos, negsuc, refl, sym, ap, ◌∙◌, append_assoc, length-append, true≢false, unsigned_abs, int_le}
use lib.Dec.{leb-zero}
use borrow.Rule.Slice.PartMut.{put_mid}
use Rattle.std.proofs.lemmas.List.{drop_at, drop-drop, length-take-le}
use Rattle.std.specs.Fmt.{decimal, signed_decimal}
use Rattle.std.proofs.lemmas.Fmt.{decimal_digit, decimal_step}

-- the last digit goes in front of the text, and the front of the number is left
pub digit_written : (n : ℕ) (text : List ℕ) → 10 ≤ n → n < 2 ^ 64 → decimal (n / 10) ++ (48 + n % 10) ∷ text ≡ decimal n ++ text
digit_written n text high fits = sym (ap (λ (t : List ℕ). t ++ text) (decimal_step n high fits) ∙ append_assoc (decimal (n / 10)) ((48 + n % 10) ∷ []) text)

pub one_digit_less : (n : ℕ) → 10 ≤ n → n < 2 ^ 64 → length (decimal n) ≡ length (decimal (n / 10)) + 1
one_digit_less n high fits = ap length (decimal_step n high fits) ∙ length-append (decimal (n / 10)) ((48 + n % 10) ∷ [])

-- the first digit of the number is the last that is written
pub first_written : (n : ℕ) (text : List ℕ) → n < 10 → (48 + n) ∷ text ≡ decimal n ++ text
first_written n text low = sym (ap (λ (t : List ℕ). t ++ text) (decimal_digit n low))

-- an integer is its digits, with a sign below 0
pub plain_integer : (z : ℤ) → int_le (pos 0) z ≡ true → decimal (unsigned_abs z) ≡ signed_decimal z
plain_integer (pos n) e = refl
plain_integer (negsuc n) e = absurd cc

pub signed_integer : (z : ℤ) → int_le (pos 0) z ≡ false → 45 ∷ decimal (unsigned_abs z) ≡ signed_decimal z
signed_integer (pos n) e = absurd (true≢false (sym (leb-zero n) ∙ e))
signed_integer (negsuc n) e = refl

-- bytes that are written before the place e of a buffer, from the place a on
pub word_written : (xs ys : List ℕ) (a k e : ℕ) → a ≤ length xs → a + k ≡ e → drop a (put_mid a k xs ys) ≡ ys ++ drop e xs
word_written xs ys a k e low is = drop_at (take a xs) (ys ++ drop k (drop a xs)) a (length-take-le a xs low) ∙ ap (λ (t : List ℕ). ys ++ t) (drop-drop k a xs ∙ ap (λ n. drop n xs) is)

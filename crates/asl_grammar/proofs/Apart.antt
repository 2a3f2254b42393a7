-- A token's bytes are read as the token where no byte that it could continue with stands after.
use Rattle.std.proofs.Common.{◌≡◌, ℕ, suc, ◌<◌, ◌≤◌, List, [], ◌∷◌, ◌++◌, Bool, true, false, ◌||◌, ◌==◌, nat_le, Option, Some, None, IsTrue, is_none, refl, sym, ap, ◌∙◌, arith, length, take, drop, ⊎_elim}
use Rattle.std.proofs.lemmas.Bool.{cond-true, cond-false, and_parts, and_from, and_left, or_left, or_from, leb-true, lt-leb, ne_eqb, eqb-true, or_cases, false_from_ne_true}
use Rattle.asl_grammar.specs.declared.token.Mark.{Mark}
use Rattle.asl_grammar.specs.declared.token.Mark.TheVariants as mark
use Rattle.asl_grammar.specs.Token.{Token, Fixed, Name, Number}
use Rattle.asl_grammar.specs.Lex.{is_blank, is_digit, is_letter, is_name_byte, leading, word_of, word_or_name, equals_token, letters_token, digits_token, number_value, front, all_bytes, has_name_bytes, is_name, IsAtToken}

-- no token before these bytes continues with them
pub record Apart (bs : List ℕ) : Type 0 where
  pub names : leading is_name_byte bs ≡ 0
  pub digits : leading is_digit bs ≡ 0
  pub equals : equals_token bs ≡ (Fixed mark.Becomes, 1)

pub leading-append : (p : ℕ → Bool) (xs ys : List ℕ) → IsTrue (all_bytes p xs) → leading p ys ≡ 0 → leading p (xs ++ ys) ≡ length xs
leading-append p [] ys h e = e
leading-append p (x ∷ xs) ys h e =
    cond-true (p x) (suc (leading p (xs ++ ys))) 0 (and_parts _ _ h).0
    ∙ ap suc (leading-append p xs ys (and_parts _ _ h).1 e)

pub take_front : (xs ys : List ℕ) → take (length xs) (xs ++ ys) ≡ xs
take_front [] ys = refl
take_front (x ∷ xs) ys = ap (λ (zs : List ℕ). x ∷ zs) (take_front xs ys)

pub drop_front : (xs ys : List ℕ) → drop (length xs) (xs ++ ys) ≡ ys
drop_front [] ys = refl
drop_front (x ∷ xs) ys = drop_front xs ys

-- a name or a word
letters_at : (w r : List ℕ) (n : ℕ) → n ≡ length w → letters_token (w ++ r) n ≡ (word_or_name (word_of w) w, length w)
letters_at w r n e =
    ap (letters_token (w ++ r)) e
    ∙ ap (λ (x : List ℕ). (word_or_name (word_of x) x, length w)) (take_front w r)

pub all_name_bytes : (b : ℕ) (x : List ℕ) → IsTrue (has_name_bytes (b ∷ x)) → IsTrue (all_bytes is_name_byte (b ∷ x))
all_name_bytes b x h =
    let p = and_parts (is_letter b) (all_bytes is_name_byte x) h in
    and_from _ _ (or_left _ _ p.0) p.1

pub front_letters : (w r : List ℕ) → IsTrue (has_name_bytes w) → leading is_name_byte r ≡ 0 → front (w ++ r) ≡ Some (word_or_name (word_of w) w, length w)
front_letters [] r h e = cc
front_letters (b ∷ x) r h e =
    cond-true (is_letter b) _ _ (and_parts (is_letter b) (all_bytes is_name_byte x) h).0
    ∙ ap (λ (p : Token × ℕ). Some p) (letters_at (b ∷ x) r (leading is_name_byte (b ∷ (x ++ r))) (leading-append is_name_byte (b ∷ x) r (all_name_bytes b x h) e))

no_word : (o : Option Mark) → is_none o ≡ true → o ≡ None
no_word None e = refl
no_word (Some m) e = cc

pub front_name : (x r : List ℕ) → IsTrue (is_name x) → leading is_name_byte r ≡ 0 → front (x ++ r) ≡ Some (Name x, length x)
front_name x r h e =
    let p = and_parts (has_name_bytes x) (is_none (word_of x)) h in
    front_letters x r p.0 e
    ∙ ap (λ (o : Option Mark). Some (word_or_name o x, length x)) (no_word (word_of x) p.1)

-- a number
pub digit_no_letter : (d : ℕ) → is_digit d ≡ true → is_letter d ≡ false
digit_no_letter d h =
    let small : d ≤ 57 = leb-true d 57 (and_parts (nat_le 48 d) (nat_le d 57) h).1 in
    or_from _ _ (or_from _ _ (and_left _ _ (lt-leb 65 d (omega arith))) (and_left _ _ (lt-leb 97 d (omega arith)))) (ne_eqb d 95 (λ e. omega arith))

digits_at : (ds r : List ℕ) (n : ℕ) → n ≡ length ds → digits_token (ds ++ r) n ≡ (Number (number_value ds), length ds)
digits_at ds r n e =
    ap (digits_token (ds ++ r)) e
    ∙ ap (λ (x : List ℕ). (Number (number_value x), length ds)) (take_front ds r)

pub front_number : (ds r : List ℕ) → 0 < length ds → IsTrue (all_bytes is_digit ds) → leading is_digit r ≡ 0 → front (ds ++ r) ≡ Some (Number (number_value ds), length ds)
front_number [] r some h e = absurd (omega arith)
front_number (d ∷ ds) r some h e =
    let digit = (and_parts (is_digit d) (all_bytes is_digit ds) h).0 in
    cond-false (is_letter d) _ _ (digit_no_letter d digit)
    ∙ cond-true (is_digit d) _ _ digit
    ∙ ap (λ (p : Token × ℕ). Some p) (digits_at (d ∷ ds) r (leading is_digit (d ∷ (ds ++ r))) (leading-append is_digit (d ∷ ds) r h e))

-- no token begins with a blank
space_no_front : (b : ℕ) (c : ℕ) (bs : List ℕ) → front (c ∷ bs) ≡ None → (b == c) ≡ true → front (b ∷ bs) ≡ None
space_no_front b c bs h e = ap (λ (d : ℕ). front (d ∷ bs)) (eqb-true b c e) ∙ h

blank_no_front : (b : ℕ) (bs : List ℕ) → is_blank b ≡ true → front (b ∷ bs) ≡ None
blank_no_front b bs e =
    ⊎_elim
    (λ f. ⊎_elim
    (λ g. ⊎_elim (space_no_front b 32 bs refl) (space_no_front b 9 bs refl) (or_cases (b == 32) (b == 9) g))
    (space_no_front b 10 bs refl)
    (or_cases (b == 32 || b == 9) (b == 10) f))
    (space_no_front b 13 bs refl)
    (or_cases (b == 32 || b == 9 || b == 10) (b == 13) e)

pub at_token_front : (bs : List ℕ) (t : Token) (n : ℕ) → front bs ≡ Some (t, n) → IsAtToken bs
at_token_front [] t n e = tt
at_token_front (b ∷ bs) t n e =
    false_from_ne_true (is_blank b) (λ h. let f : Some (t, n) ≡ None = sym e ∙ blank_no_front b bs h in cc)

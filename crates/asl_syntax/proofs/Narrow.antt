-- Printed bytes are ASCII.
use Rattle.std.proofs.Common.{◌≡◌, ℕ, ◌+◌, ◌<◌, ◌≤◌, List, [], ◌∷◌, ◌++◌, Bool, true, not, nat_le, nat_lt, ◌&&◌, ◌||◌, ◌==◌, None, IsTrue, refl, ap, ◌∙◌, arith, length, drop, ⊎_elim}
use Rattle.std.specs.List.{prefix_len}
use Rattle.std.proofs.lemmas.Bool.{cond-true, cond-false, and_parts, and_from, or_cases, leb-true, lt-leb, le-ltb, eqb-true}
use Rattle.asl_grammar.specs.declared.token.Mark.{Mark}
use Rattle.asl_grammar.specs.declared.token.Mark.TheVariants as mark
use Rattle.asl_grammar.specs.Token.{Token, Fixed, Name, Number}
use Rattle.asl_grammar.specs.Lex.{is_digit, is_letter, is_name_byte, all_bytes, has_name_bytes, is_token, are_tokens}
use Rattle.asl_syntax.specs.Parsed.{first_wide}
use Rattle.asl_grammar.specs.Bytes.{mark_bytes}
use Rattle.asl_syntax.specs.Printed.{decimal, token_bytes, spaced}
use Rattle.asl_syntax.proofs.Decimals.{decimal_is}

abbrev is_narrow : ℕ → Bool
is_narrow b = not (nat_le 128 b)

narrow_below : (b : ℕ) → b < 128 → is_narrow b ≡ true
narrow_below b h = ap not (lt-leb 128 b h)

narrow_digit : (b : ℕ) → is_digit b ≡ true → is_narrow b ≡ true
narrow_digit b h =
    let small : b ≤ 57 = leb-true b 57 (and_parts (nat_le 48 b) (nat_le b 57) h).1 in
    narrow_below b (omega arith)

narrow_letter : (b : ℕ) → is_letter b ≡ true → is_narrow b ≡ true
narrow_letter b h =
    ⊎_elim
    (λ f. ⊎_elim
    (λ g. let small : b ≤ 90 = leb-true b 90 (and_parts (nat_le 65 b) (nat_le b 90) g).1 in narrow_below b (omega arith))
    (λ g. let small : b ≤ 122 = leb-true b 122 (and_parts (nat_le 97 b) (nat_le b 122) g).1 in narrow_below b (omega arith))
    (or_cases (nat_le 65 b && nat_le b 90) (nat_le 97 b && nat_le b 122) f))
    (λ f. let same : b ≡ 95 = eqb-true b 95 f in narrow_below b (omega arith))
    (or_cases (nat_le 65 b && nat_le b 90 || nat_le 97 b && nat_le b 122) (b == 95) h)

narrow_name_byte : (b : ℕ) → is_name_byte b ≡ true → is_narrow b ≡ true
narrow_name_byte b h = ⊎_elim (narrow_letter b) (narrow_digit b) (or_cases (is_letter b) (is_digit b) h)

all_under : (p q : ℕ → Bool) (bs : List ℕ) → ((b : ℕ) → p b ≡ true → q b ≡ true) → IsTrue (all_bytes p bs) → IsTrue (all_bytes q bs)
all_under p q [] f h = refl
all_under p q (b ∷ bs) f h =
    let both = and_parts (p b) (all_bytes p bs) h in
    and_from _ _ (f b both.0) (all_under p q bs f both.1)

all-append : (p : ℕ → Bool) (xs ys : List ℕ) → IsTrue (all_bytes p xs) → IsTrue (all_bytes p ys) → IsTrue (all_bytes p (xs ++ ys))
all-append p [] ys h k = k
all-append p (x ∷ xs) ys h k =
    let both = and_parts (p x) (all_bytes p xs) h in
    and_from _ _ both.0 (all-append p xs ys both.1 k)

narrow_mark : (m : Mark) → IsTrue (all_bytes is_narrow (mark_bytes m))
narrow_mark mark.Global = refl
narrow_mark _ = refl

narrow_name : (x : List ℕ) → IsTrue (has_name_bytes x) → IsTrue (all_bytes is_narrow x)
narrow_name [] h = refl
narrow_name (b ∷ x) h =
    let both = and_parts (is_letter b) (all_bytes is_name_byte x) h in
    and_from _ _ (narrow_letter b both.0) (all_under is_name_byte is_narrow x narrow_name_byte both.1)

narrow_token : (t : Token) → IsTrue (is_token t) → IsTrue (all_bytes is_narrow (token_bytes t))
narrow_token (Fixed m) h = narrow_mark m
narrow_token (Name x) h = narrow_name x (and_parts (has_name_bytes x) _ h).0
narrow_token (Number n) h = all_under is_digit is_narrow (decimal n) narrow_digit (decimal_is n).digits

narrow_spaced : (ts : List Token) → IsTrue (are_tokens ts) → IsTrue (all_bytes is_narrow (spaced ts))
narrow_spaced [] h = refl
narrow_spaced (t ∷ ts) h =
    let both = and_parts (is_token t) (are_tokens ts) h in
    all-append is_narrow (token_bytes t) (spaced ts) (narrow_token t both.0) (narrow_spaced ts both.1)

narrow_text : (ts : List Token) → IsTrue (are_tokens ts) → IsTrue (all_bytes is_narrow (drop 1 (spaced ts) ++ 10 ∷ []))
narrow_text [] h = refl
narrow_text (t ∷ ts) h =
    all-append is_narrow (drop 1 (spaced (t ∷ ts))) (10 ∷ []) (narrow_spaced (t ∷ ts) h) refl

all_narrow : (bs : List ℕ) → IsTrue (all_bytes is_narrow bs) → prefix_len is_narrow bs ≡ length bs
all_narrow [] h = refl
all_narrow (b ∷ bs) h =
    let both = and_parts (is_narrow b) (all_bytes is_narrow bs) h in
    let rest : prefix_len is_narrow bs ≡ length bs = all_narrow bs both.1 in
    cond-true (is_narrow b) (1 + prefix_len is_narrow bs) 0 both.0 ∙ omega arith

no_wide : (bs : List ℕ) → IsTrue (all_bytes is_narrow bs) → first_wide bs ≡ None
no_wide bs h =
    let e : prefix_len is_narrow bs ≡ length bs = all_narrow bs h in
    cond-false (nat_lt (prefix_len is_narrow bs) (length bs)) _ _ (le-ltb (prefix_len is_narrow bs) (length bs) (omega arith))

-- the bytes of tokens with one space between and a newline at the end
pub ascii_spaced : (ts : List Token) → IsTrue (are_tokens ts) → first_wide (drop 1 (spaced ts) ++ 10 ∷ []) ≡ None
ascii_spaced ts h = no_wide (drop 1 (spaced ts) ++ 10 ∷ []) (narrow_text ts h)

-- A text that is blanks and tokens throughout is ASCII.
use Rattle.std.proofs.Common.{◌≡◌, ℕ, zero, suc, ◌-◌, ◌<◌, ◌≤◌, List, [], ◌∷◌, Bool, true, false, not, ◌==◌, nat_le, nat_lt, Option, Some, None, ⊎_elim, refl, ap, ◌∙◌, arith, length}
use Rattle.std.specs.List.{prefix_len, position_or_len}
use Rattle.std.proofs.lemmas.Bool.{cond_both, cond-true, cond-false, cases_lt, lt-leb, le-ltb, eqb-true, ne_eqb, or_from, or_left, and_right, both_ways}
use Rattle.asl_grammar.specs.declared.token.Mark.{Mark}
use Rattle.asl_grammar.specs.declared.token.Mark.TheVariants as mark
use Rattle.asl_grammar.specs.Token.{Token, Fixed}
use Rattle.asl_grammar.specs.Lex.{is_blank, is_digit, is_letter, is_name_byte, leading, equals_token, symbol_of_byte, symbol_token, front, bad_from, bad_then, bad_place}
use Rattle.asl_syntax.specs.Parsed.{first_wide}

-- so many bytes at the front are ASCII
abbrev Narrow : ℕ → List ℕ → Type 0
Narrow zero bs = Unit {0}
Narrow (suc k) [] = Unit {0}
Narrow (suc k) (b ∷ bs) = (b < 128) × Narrow k bs

-- all are
abbrev AllNarrow : List ℕ → Type 0
AllNarrow [] = Unit {0}
AllNarrow (b ∷ bs) = (b < 128) × AllNarrow bs

-- a byte that passes a test which no other passes
narrow_by : (p : ℕ → Bool) → ((b : ℕ) → 128 ≤ b → p b ≡ false) → (b : ℕ) → p b ≡ true → b < 128
narrow_by p h b e = ⊎_elim (λ l. l) (λ l. absurd (both_ways (p b) (h b l) e)) (cases_lt b 128)

wide_blank : (b : ℕ) → 128 ≤ b → is_blank b ≡ false
wide_blank b h =
    or_from _ _ (or_from _ _ (or_from _ _ (ne_eqb b 32 (λ q. omega (arith, h, q))) (ne_eqb b 9 (λ q. omega (arith, h, q)))) (ne_eqb b 10 (λ q. omega (arith, h, q)))) (ne_eqb b 13 (λ q. omega (arith, h, q)))

wide_digit : (b : ℕ) → 128 ≤ b → is_digit b ≡ false
wide_digit b h = and_right _ _ (lt-leb b 57 (omega (arith, h)))

wide_letter : (b : ℕ) → 128 ≤ b → is_letter b ≡ false
wide_letter b h =
    or_from _ _ (or_from _ _ (and_right _ _ (lt-leb b 90 (omega (arith, h)))) (and_right _ _ (lt-leb b 122 (omega (arith, h))))) (ne_eqb b 95 (λ q. omega (arith, h, q)))

wide_name : (b : ℕ) → 128 ≤ b → is_name_byte b ≡ false
wide_name b h = or_from _ _ (wide_letter b h) (wide_digit b h)

-- bytes at the front that pass such a test
narrow_leading : (p : ℕ → Bool) → ((b : ℕ) → p b ≡ true → b < 128) → (bs : List ℕ) → Narrow (leading p bs) bs
narrow_leading p h [] = tt
narrow_leading p h (b ∷ bs) =
    cond_both (p b) (suc (leading p bs)) 0 (λ n. Narrow n (b ∷ bs)) (λ e. (h b e, narrow_leading p h bs)) (λ e. tt)

-- the bytes of a token, but for the first
abbrev Follows : ℕ → List ℕ → Option (Token × ℕ) → Type 0
Follows b bs None = Unit {0}
Follows b bs (Some p) = (b < 128) × Narrow (p.1 - 1) bs

narrow_run : (p : ℕ → Bool) → ((b : ℕ) → p b ≡ true → b < 128) → (b : ℕ) (bs : List ℕ) → p b ≡ true → (b < 128) × Narrow (leading p (b ∷ bs) - 1) bs
narrow_run p h b bs e =
    let n : leading p (b ∷ bs) - 1 ≡ leading p bs = rw e (omega arith) in
    (h b e, rw n (narrow_leading p h bs))

narrow_equals : (b : ℕ) (bs : List ℕ) → b < 128 → Follows b bs (Some (equals_token bs))
narrow_equals b [] h = (h, tt)
narrow_equals b (d ∷ bs) h =
    cond_both {A = Token × ℕ} (d == 61) (Fixed mark.Same, 2) (Fixed mark.Becomes, 1) (λ p. Follows b (d ∷ bs) (Some p)) (λ e. (h, (omega (arith, eqb-true d 61 e), tt))) (λ e. (h, tt))

some_none : {A : Type 0} (m : A) → Some m ≡ None → ⊥
some_none m e = cc

narrow_symbol : (b : ℕ) (bs : List ℕ) (m : Option Mark) → (128 ≤ b → m ≡ None) → Follows b bs (symbol_token m)
narrow_symbol b bs None h = tt
narrow_symbol b bs (Some m) h = (⊎_elim (λ l. l) (λ l. absurd (some_none m (h l))) (cases_lt b 128), tt)

wide_symbol : (b : ℕ) → 128 ≤ b → symbol_of_byte b ≡ None
wide_symbol b h =
    cond-false (b == 40) _ _ (ne_eqb b 40 (λ q. omega (arith, h, q)))
    ∙ cond-false (b == 41) _ _ (ne_eqb b 41 (λ q. omega (arith, h, q)))
    ∙ cond-false (b == 123) _ _ (ne_eqb b 123 (λ q. omega (arith, h, q)))
    ∙ cond-false (b == 125) _ _ (ne_eqb b 125 (λ q. omega (arith, h, q)))
    ∙ cond-false (b == 91) _ _ (ne_eqb b 91 (λ q. omega (arith, h, q)))
    ∙ cond-false (b == 93) _ _ (ne_eqb b 93 (λ q. omega (arith, h, q)))
    ∙ cond-false (b == 44) _ _ (ne_eqb b 44 (λ q. omega (arith, h, q)))
    ∙ cond-false (b == 59) _ _ (ne_eqb b 59 (λ q. omega (arith, h, q)))
    ∙ cond-false (b == 43) _ _ (ne_eqb b 43 (λ q. omega (arith, h, q)))
    ∙ cond-false (b == 45) _ _ (ne_eqb b 45 (λ q. omega (arith, h, q)))
    ∙ cond-false (b == 60) _ _ (ne_eqb b 60 (λ q. omega (arith, h, q)))
    ∙ cond-false (b == 38) _ _ (ne_eqb b 38 (λ q. omega (arith, h, q)))
    ∙ cond-false (b == 42) _ _ (ne_eqb b 42 (λ q. omega (arith, h, q)))

narrow_front : (b : ℕ) (bs : List ℕ) → Follows b bs (front (b ∷ bs))
narrow_front b bs =
    cond_both {A = Option (Token × ℕ)} (is_letter b) _ _ (Follows b bs)
    (λ e. narrow_run is_name_byte (narrow_by is_name_byte wide_name) b bs (or_left _ _ e))
    (λ e. cond_both {A = Option (Token × ℕ)} (is_digit b) _ _ (Follows b bs)
    (λ d. narrow_run is_digit (narrow_by is_digit wide_digit) b bs d)
    (λ d. cond_both {A = Option (Token × ℕ)} (b == 61) _ _ (Follows b bs)
    (λ q. narrow_equals b bs (omega (arith, eqb-true b 61 q)))
    (λ q. narrow_symbol b bs (symbol_of_byte b) (wide_symbol b))))

-- what the bytes after the first are, where the text is blanks and tokens from one of them on
abbrev Rest : List ℕ → ℕ → Type 0
Rest bs at = (k : ℕ) → Narrow k bs → bad_from bs k at ≡ None → AllNarrow bs

after_token : (b : ℕ) (bs : List ℕ) (at : ℕ) (f : Option (Token × ℕ)) → Follows b bs f → Rest bs (suc at) → bad_then f at (λ k. bad_from bs k (suc at)) ≡ None → AllNarrow (b ∷ bs)
after_token b bs at None n rest h = absurd (some_none at h)
after_token b bs at (Some (t, k)) n rest h = (n.0, rest (k - 1) n.1 h)

after_byte : (b : ℕ) (bs : List ℕ) (at : ℕ) → Rest bs (suc at) → bad_from (b ∷ bs) 0 at ≡ None → AllNarrow (b ∷ bs)
after_byte b bs at rest =
    cond_both {A = Option ℕ} (is_blank b) _ _ (λ o. o ≡ None → AllNarrow (b ∷ bs))
    (λ e h. (narrow_by is_blank wide_blank b e, rest 0 tt h))
    (λ e h. after_token b bs at (front (b ∷ bs)) (narrow_front b bs) rest h)

all_narrow : (bs : List ℕ) (skip at : ℕ) → Narrow skip bs → bad_from bs skip at ≡ None → AllNarrow bs
all_narrow [] skip at n h = tt
all_narrow (b ∷ bs) (suc k) at n h = (n.0, all_narrow bs k (suc at) n.1 h)
all_narrow (b ∷ bs) zero at n h = after_byte b bs at (λ k. all_narrow bs k (suc at)) h

none_wide : (bs : List ℕ) → AllNarrow bs → prefix_len (λ b. not (nat_le 128 b)) bs ≡ length bs
none_wide [] h = refl
none_wide (b ∷ bs) h =
    cond-true (not (nat_le 128 b)) _ _ (ap not (lt-leb 128 b h.0)) ∙ omega (arith, none_wide bs h.1)

pub ascii : (text : List ℕ) → bad_place text ≡ None → first_wide text ≡ None
ascii text h =
    let all = none_wide text (all_narrow text 0 0 tt h) in
    cond-false (nat_lt (position_or_len (λ b. nat_le 128 b) text) (length text)) _ _ (le-ltb _ _ (omega (arith, all)))

-- Steps of a reader of tokens.
use Rattle.std.proofs.Common.{◌≡◌, ℕ, zero, suc, ◌+◌, ◌-◌, ◌<◌, ◌≤◌, List, [], ◌∷◌, Bool, true, false, ◌==◌, Option, Some, None, refl, sym, ap, ◌∙◌, arith, length, drop}
use Rattle.std.proofs.lemmas.Bool.{cond_both}
use Rattle.std.proofs.lemmas.List.{length-drop}
use Rattle.asl_grammar.specs.declared.token.Mark.{Mark}
use Rattle.asl_grammar.specs.declared.token.Mark.TheVariants as mark
use Rattle.asl_grammar.specs.Token.{Token, Fixed, Spot}
use Rattle.asl_grammar.specs.Lex.{is_blank, is_digit, is_letter, is_name_byte, leading, equals_token, symbol_of_byte, symbol_token, front, spots, spot_then, bad_from, bad_then, IsAtToken}

-- bytes that are passed
pub spots_skip : (bs : List ℕ) (k at : ℕ) → k ≤ length bs → spots bs k at ≡ spots (drop k bs) 0 (at + k)
spots_skip bs zero at h = ap (spots bs 0) (omega arith)
spots_skip [] (suc k) at h = refl
spots_skip (b ∷ bs) (suc k) at h =
    spots_skip bs k (suc at) (omega arith) ∙ ap (spots (drop k bs) 0) (omega arith)

pub bad_skip : (bs : List ℕ) (k at : ℕ) → k ≤ length bs → bad_from bs k at ≡ bad_from (drop k bs) 0 (at + k)
bad_skip bs zero at h = ap (bad_from bs 0) (omega arith)
bad_skip [] (suc k) at h = refl
bad_skip (b ∷ bs) (suc k) at h =
    bad_skip bs k (suc at) (omega arith) ∙ ap (bad_from (drop k bs) 0) (omega arith)

pub leading_le : (p : ℕ → Bool) (bs : List ℕ) → leading p bs ≤ length bs
leading_le p [] = omega arith
leading_le p (b ∷ bs) =
    cond_both (p b) (suc (leading p bs)) 0 (λ n. n ≤ suc (length bs)) (λ e. omega (arith, leading_le p bs)) (λ e. omega arith)

leading_pos : (p : ℕ → Bool) (b : ℕ) (bs : List ℕ) → p b ≡ true → 0 < leading p (b ∷ bs)
leading_pos p b bs e = rw e (omega arith)

-- blanks that are passed
blank_first : (b : ℕ) (bs : List ℕ) (at : ℕ) (t : Bool) → is_blank b ≡ t → spots bs 0 (suc at) ≡ spots (drop (leading is_blank bs) bs) 0 (suc at + leading is_blank bs) → spots (b ∷ bs) 0 at ≡ spots (drop (leading is_blank (b ∷ bs)) (b ∷ bs)) 0 (at + leading is_blank (b ∷ bs))
blank_first b bs at true e h =
    let k : suc at + leading is_blank bs ≡ at + suc (leading is_blank bs) = omega arith in
    simp (e) (h ∙ ap (spots (drop (leading is_blank bs) bs) 0) k)
blank_first b bs at false e h =
    let k : at ≡ at + 0 = omega arith in
    simp (e) (ap (λ (n : ℕ). spot_then (front (b ∷ bs)) n (λ j. spots bs j (suc n))) k)

blank_first_bad : (b : ℕ) (bs : List ℕ) (at : ℕ) (t : Bool) → is_blank b ≡ t → bad_from bs 0 (suc at) ≡ bad_from (drop (leading is_blank bs) bs) 0 (suc at + leading is_blank bs) → bad_from (b ∷ bs) 0 at ≡ bad_from (drop (leading is_blank (b ∷ bs)) (b ∷ bs)) 0 (at + leading is_blank (b ∷ bs))
blank_first_bad b bs at true e h =
    let k : suc at + leading is_blank bs ≡ at + suc (leading is_blank bs) = omega arith in
    simp (e) (h ∙ ap (bad_from (drop (leading is_blank bs) bs) 0) k)
blank_first_bad b bs at false e h =
    let k : at ≡ at + 0 = omega arith in
    simp (e) (ap (λ (n : ℕ). bad_then (front (b ∷ bs)) n (λ j. bad_from bs j (suc n))) k)

at_token_first : (b : ℕ) (bs : List ℕ) (t : Bool) → is_blank b ≡ t → IsAtToken (drop (leading is_blank bs) bs) → IsAtToken (drop (leading is_blank (b ∷ bs)) (b ∷ bs))
at_token_first b bs true e h = simp (e) h
at_token_first b bs false e h = simp (e)

pub spots_blank : (bs : List ℕ) (at : ℕ) → spots bs 0 at ≡ spots (drop (leading is_blank bs) bs) 0 (at + leading is_blank bs)
spots_blank [] at = refl
spots_blank (b ∷ bs) at = blank_first b bs at (is_blank b) refl (spots_blank bs (suc at))

pub bad_blank : (bs : List ℕ) (at : ℕ) → bad_from bs 0 at ≡ bad_from (drop (leading is_blank bs) bs) 0 (at + leading is_blank bs)
bad_blank [] at = refl
bad_blank (b ∷ bs) at = blank_first_bad b bs at (is_blank b) refl (bad_blank bs (suc at))

pub at_token : (bs : List ℕ) → IsAtToken (drop (leading is_blank bs) bs)
at_token [] = tt
at_token (b ∷ bs) = at_token_first b bs (is_blank b) refl (at_token bs)

-- the token at the front takes a byte at least, and no more than there are
abbrev Within : List ℕ → Option (Token × ℕ) → Type 0
Within bs None = Unit {0}
Within bs (Some p) = (0 < p.1) × (p.1 ≤ length bs)

within_equals : (b : ℕ) (bs : List ℕ) → Within (b ∷ bs) (Some (equals_token bs))
within_equals b [] = (omega arith, omega arith)
within_equals b (d ∷ bs) =
    cond_both {A = Token × ℕ} (d == 61) (Fixed mark.Same, 2) (Fixed mark.Becomes, 1) (λ p. (0 < p.1) × (p.1 ≤ suc (suc (length bs)))) (λ e. (omega arith, omega arith)) (λ e. (omega arith, omega arith))

within_symbol : (b : ℕ) (bs : List ℕ) (m : Option Mark) → Within (b ∷ bs) (symbol_token m)
within_symbol b bs None = tt
within_symbol b bs (Some m) = (omega arith, omega arith)

within_front : (bs : List ℕ) → Within bs (front bs)
within_front [] = tt
within_front (b ∷ bs) =
    cond_both {A = Option (Token × ℕ)} (is_letter b) _ _ (Within (b ∷ bs))
    (λ e. (leading_pos is_name_byte b bs (simp (e)), leading_le is_name_byte (b ∷ bs)))
    (λ e. cond_both {A = Option (Token × ℕ)} (is_digit b) _ _ (Within (b ∷ bs))
    (λ d. (leading_pos is_digit b bs d, leading_le is_digit (b ∷ bs)))
    (λ d. cond_both {A = Option (Token × ℕ)} (b == 61) _ _ (Within (b ∷ bs)) (λ q. within_equals b bs) (λ q. within_symbol b bs (symbol_of_byte b))))

pub front_fits : (bs : List ℕ) (t : Token) (n : ℕ) → front bs ≡ Some (t, n) → (0 < n) × (n ≤ length bs)
front_fits bs t n e = rw e at (within_front bs)

-- a token that is passed
pub spots_token : (bs : List ℕ) (at : ℕ) (t : Token) (n : ℕ) → IsAtToken bs → front bs ≡ Some (t, n) → spots bs 0 at ≡ record { token = t; at = at } ∷ spots (drop n bs) 0 (at + n)
spots_token [] at t n a e = cc
spots_token (b ∷ bs) at t zero a e = absurd (omega (arith, (front_fits (b ∷ bs) t zero e).0))
spots_token (b ∷ bs) at t (suc n) a e =
    let small : n ≤ length bs = omega (arith, (front_fits (b ∷ bs) t (suc n) e).1) in
    let less : suc n - 1 ≡ n = omega arith in
    let rest : spots bs n (suc at) ≡ spots (drop n bs) 0 (at + suc n) = spots_skip bs n (suc at) small ∙ ap (spots (drop n bs) 0) (omega arith) in
    simp (a, e, less) (ap (λ (ss : List Spot). record { token = t; at = at } ∷ ss) rest)

pub bad_token : (bs : List ℕ) (at : ℕ) (t : Token) (n : ℕ) → IsAtToken bs → front bs ≡ Some (t, n) → bad_from bs 0 at ≡ bad_from (drop n bs) 0 (at + n)
bad_token [] at t n a e = cc
bad_token (b ∷ bs) at t zero a e = absurd (omega (arith, (front_fits (b ∷ bs) t zero e).0))
bad_token (b ∷ bs) at t (suc n) a e =
    let small : n ≤ length bs = omega (arith, (front_fits (b ∷ bs) t (suc n) e).1) in
    let less : suc n - 1 ≡ n = omega arith in
    let rest : bad_from bs n (suc at) ≡ bad_from (drop n bs) 0 (at + suc n) = bad_skip bs n (suc at) small ∙ ap (bad_from (drop n bs) 0) (omega arith) in
    simp (a, e, less) rest

-- a place where no token stands
pub spots_none : (b : ℕ) (bs : List ℕ) (at : ℕ) → is_blank b ≡ false → front (b ∷ bs) ≡ None → spots (b ∷ bs) 0 at ≡ []
spots_none b bs at a e = simp (a, e)

pub bad_none : (b : ℕ) (bs : List ℕ) (at : ℕ) → is_blank b ≡ false → front (b ∷ bs) ≡ None → bad_from (b ∷ bs) 0 at ≡ Some at
bad_none b bs at a e = simp (a, e)

-- the same steps as the code takes them: `rest` and `next` are what is left
pub spots_after_blanks : (bs rest : List ℕ) (at next n : ℕ) → n ≡ leading is_blank bs → rest ≡ drop n bs → next ≡ at + n → spots rest 0 next ≡ spots bs 0 at
spots_after_blanks bs rest at next n e r a = rw (r, a, e) (sym (spots_blank bs at))

pub bad_after_blanks : (bs rest : List ℕ) (at next n : ℕ) → n ≡ leading is_blank bs → rest ≡ drop n bs → next ≡ at + n → bad_from rest 0 next ≡ bad_from bs 0 at
bad_after_blanks bs rest at next n e r a = rw (r, a, e) (sym (bad_blank bs at))

pub at_token_after_blanks : (bs rest : List ℕ) (n : ℕ) → n ≡ leading is_blank bs → rest ≡ drop n bs → IsAtToken rest
at_token_after_blanks bs rest n e r = rw (r, e) (at_token bs)

pub spots_after_token : (bs rest : List ℕ) (at next : ℕ) (t : Token) (n : ℕ) → IsAtToken bs → Some (t, n) ≡ front bs → rest ≡ drop n bs → next ≡ at + n → spots bs 0 at ≡ record { token = t; at = at } ∷ spots rest 0 next
spots_after_token bs rest at next t n h e r a = rw (r, a) (spots_token bs at t n h (sym e))

pub bad_after_token : (bs rest : List ℕ) (at next : ℕ) (t : Token) (n : ℕ) → IsAtToken bs → Some (t, n) ≡ front bs → rest ≡ drop n bs → next ≡ at + n → bad_from bs 0 at ≡ bad_from rest 0 next
bad_after_token bs rest at next t n h e r a = rw (r, a) (bad_token bs at t n h (sym e))

pub shorter_after_token : (bs rest : List ℕ) (t : Token) (n : ℕ) → Some (t, n) ≡ front bs → rest ≡ drop n bs → length rest < length bs
shorter_after_token bs rest t n e r =
    let f : (0 < n) × (n ≤ length bs) = front_fits bs t n (sym e) in
    rw r (omega (arith, length-drop n bs))

-- no token and no blank
pub spots_at_none : (bs : List ℕ) (at : ℕ) → IsAtToken bs → None ≡ front bs → spots bs 0 at ≡ []
spots_at_none [] at a e = refl
spots_at_none (b ∷ bs) at a e = spots_none b bs at a (sym e)

pub bad_at_none : (bs : List ℕ) (at : ℕ) → IsAtToken bs → None ≡ front bs → (length bs == 0) ≡ false → bad_from bs 0 at ≡ Some at
bad_at_none [] at a e h = cc
bad_at_none (b ∷ bs) at a e h = bad_none b bs at a (sym e)

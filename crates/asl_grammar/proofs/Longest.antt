-- The token at the front of a text is the longest one there, and bytes spell one token at most.
use Rattle.std.proofs.Common.{◌≡◌, ℕ, suc, ◌<◌, ◌≤◌, List, [], ◌∷◌, ◌++◌, Bool, true, ◌==◌, bytes_eq, codes, Option, Some, None, IsTrue, is_none, refl, sym, ap, ◌∙◌, subst, arith, length, take, drop}
use Rattle.std.proofs.lemmas.Bool.{cond_both, and_parts, and_from, both_ways, eqb-true}
use Rattle.std.proofs.lemmas.List.{take-append-drop, length-take-le}
use Rattle.std.proofs.lemmas.Slice.Eq.{bytes_eq-Decides}
use Rattle.asl_grammar.specs.declared.token.Mark.{Mark}
use Rattle.asl_grammar.specs.declared.token.Mark.TheVariants as mark
use Rattle.asl_grammar.specs.Token.{Token, Fixed, Name, Number}
use Rattle.asl_grammar.specs.Lex.{is_digit, is_letter, is_name_byte, leading, word_of, word_or_name, equals_token, symbol_of_byte, symbol_token, letters_token, digits_token, front, all_bytes, has_name_bytes}
use Rattle.asl_grammar.specs.Bytes.{mark_bytes, IsSpelling, IsFront}
use Rattle.asl_grammar.proofs.Apart.{Apart, all_name_bytes, digit_no_letter, front_letters, front_name, front_number}
use Rattle.asl_grammar.proofs.Real.{taken_pass, taken_name}
use Rattle.asl_grammar.proofs.Scan.{front_fits}

-- the bytes of a word, and of a symbol
abbrev WordIs : List ℕ → Option Mark → Type 0
WordIs w None = Unit {0}
WordIs w (Some m) = w ≡ mark_bytes m

same : (w : List ℕ) (m : Mark) → bytes_eq w (mark_bytes m) ≡ true → w ≡ mark_bytes m
same w m e = (bytes_eq-Decides w (mark_bytes m)).0 e

word_bytes : (w : List ℕ) → WordIs w (word_of w)
word_bytes w =
    cond_both {A = Option Mark} (bytes_eq w (codes "global")) _ _ (WordIs w) (same w mark.Global) (λ e.
    cond_both {A = Option Mark} (bytes_eq w (codes "fn")) _ _ (WordIs w) (same w mark.Fn) (λ e.
    cond_both {A = Option Mark} (bytes_eq w (codes "return")) _ _ (WordIs w) (same w mark.Return) (λ e.
    cond_both {A = Option Mark} (bytes_eq w (codes "null")) _ _ (WordIs w) (same w mark.Null) (λ e.
    cond_both {A = Option Mark} (bytes_eq w (codes "new")) _ _ (WordIs w) (same w mark.New) (λ e.
    cond_both {A = Option Mark} (bytes_eq w (codes "out")) _ _ (WordIs w) (same w mark.Out) (λ e.
    cond_both {A = Option Mark} (bytes_eq w (codes "if")) _ _ (WordIs w) (same w mark.If) (λ e.
    cond_both {A = Option Mark} (bytes_eq w (codes "else")) _ _ (WordIs w) (same w mark.Else) (λ e.
    cond_both {A = Option Mark} (bytes_eq w (codes "while")) _ _ (WordIs w) (same w mark.While) (λ e.
    cond_both {A = Option Mark} (bytes_eq w (codes "atomic")) _ _ (WordIs w) (same w mark.Atomic) (λ e. tt))))))))))

-- a token with the bytes that it takes
abbrev Spelled : List ℕ → Option (Token × ℕ) → Type 0
Spelled bs None = Unit {0}
Spelled bs (Some p) = IsSpelling p.0 (take p.1 bs)

byte_is : (b c : ℕ) → (b == c) ≡ true → b ∷ [] ≡ c ∷ []
byte_is b c e = ap (λ (d : ℕ). d ∷ []) (eqb-true b c e)

symbol_bytes : (b : ℕ) → WordIs (b ∷ []) (symbol_of_byte b)
symbol_bytes b =
    cond_both {A = Option Mark} (b == 40) _ _ (WordIs (b ∷ [])) (byte_is b 40) (λ e.
    cond_both {A = Option Mark} (b == 41) _ _ (WordIs (b ∷ [])) (byte_is b 41) (λ e.
    cond_both {A = Option Mark} (b == 123) _ _ (WordIs (b ∷ [])) (byte_is b 123) (λ e.
    cond_both {A = Option Mark} (b == 125) _ _ (WordIs (b ∷ [])) (byte_is b 125) (λ e.
    cond_both {A = Option Mark} (b == 91) _ _ (WordIs (b ∷ [])) (byte_is b 91) (λ e.
    cond_both {A = Option Mark} (b == 93) _ _ (WordIs (b ∷ [])) (byte_is b 93) (λ e.
    cond_both {A = Option Mark} (b == 44) _ _ (WordIs (b ∷ [])) (byte_is b 44) (λ e.
    cond_both {A = Option Mark} (b == 59) _ _ (WordIs (b ∷ [])) (byte_is b 59) (λ e.
    cond_both {A = Option Mark} (b == 43) _ _ (WordIs (b ∷ [])) (byte_is b 43) (λ e.
    cond_both {A = Option Mark} (b == 45) _ _ (WordIs (b ∷ [])) (byte_is b 45) (λ e.
    cond_both {A = Option Mark} (b == 60) _ _ (WordIs (b ∷ [])) (byte_is b 60) (λ e.
    cond_both {A = Option Mark} (b == 38) _ _ (WordIs (b ∷ [])) (byte_is b 38) (λ e.
    cond_both {A = Option Mark} (b == 42) _ _ (WordIs (b ∷ [])) (byte_is b 42) (λ e. tt)))))))))))))

symbol_spelled : (b : ℕ) (bs : List ℕ) (o : Option Mark) → WordIs (b ∷ []) o → Spelled (b ∷ bs) (symbol_token o)
symbol_spelled b bs None h = tt
symbol_spelled b bs (Some m) h = h

equals_spelled : (b : ℕ) (bs : List ℕ) → b ≡ 61 → Spelled (b ∷ bs) (Some (equals_token bs))
equals_spelled b [] e = ap (λ (c : ℕ). c ∷ []) e
equals_spelled b (d ∷ bs) e =
    cond_both {A = Token × ℕ} (d == 61) (Fixed mark.Same, 2) (Fixed mark.Becomes, 1) (λ p. Spelled (b ∷ d ∷ bs) (Some p))
    (λ f. ap (λ (c : ℕ). c ∷ d ∷ []) e ∙ ap (λ (c : ℕ). 61 ∷ c ∷ []) (eqb-true d 61 f))
    (λ f. ap (λ (c : ℕ). c ∷ []) e)

word_or_name_spelled : (o : Option Mark) (w : List ℕ) → word_of w ≡ o → WordIs w o → IsTrue (has_name_bytes w) → IsSpelling (word_or_name o w) w
word_or_name_spelled None w e h n = record { same = refl; real = and_from _ _ n (ap is_none e) }
word_or_name_spelled (Some m) w e h n = h

letters_spelled : (b : ℕ) (bs : List ℕ) → is_letter b ≡ true → Spelled (b ∷ bs) (Some (letters_token (b ∷ bs) (leading is_name_byte (b ∷ bs))))
letters_spelled b bs e =
    let w : List ℕ = take (leading is_name_byte (b ∷ bs)) (b ∷ bs) in
    word_or_name_spelled (word_of w) w refl (word_bytes w) (taken_name b bs e)

digits_spelled : (b : ℕ) (bs : List ℕ) → is_digit b ≡ true → Spelled (b ∷ bs) (Some (digits_token (b ∷ bs) (leading is_digit (b ∷ bs))))
digits_spelled b bs e = record {
  some = cond_both (is_digit b) (suc (leading is_digit bs)) 0 (λ n. 0 < length (take n (b ∷ bs))) (λ f. omega arith) (λ f. absurd (both_ways (is_digit b) f e));
  digits = taken_pass is_digit (b ∷ bs);
  value = refl;
}

front_spelled : (bs : List ℕ) → Spelled bs (front bs)
front_spelled [] = tt
front_spelled (b ∷ bs) =
    cond_both {A = Option (Token × ℕ)} (is_letter b) _ _ (Spelled (b ∷ bs))
    (λ e. letters_spelled b bs e)
    (λ e. cond_both {A = Option (Token × ℕ)} (is_digit b) _ _ (Spelled (b ∷ bs))
    (λ d. digits_spelled b bs d)
    (λ d. cond_both {A = Option (Token × ℕ)} (b == 61) _ _ (Spelled (b ∷ bs)) (λ q. equals_spelled b bs (eqb-true b 61 q)) (λ q. symbol_spelled b bs (symbol_of_byte b) (symbol_bytes b))))

-- a token at the front takes so many bytes at least
abbrev Reaches : ℕ → Option (Token × ℕ) → Type 0
Reaches n None = ⊥
Reaches n (Some p) = n ≤ p.1

leading_ge : (p : ℕ → Bool) (xs ys : List ℕ) → IsTrue (all_bytes p xs) → length xs ≤ leading p (xs ++ ys)
leading_ge p [] ys h = omega arith
leading_ge p (x ∷ xs) ys h =
    let both = and_parts (p x) (all_bytes p xs) h in
    let rest : length xs ≤ leading p (xs ++ ys) = leading_ge p xs ys both.1 in
    cond_both (p x) (suc (leading p (xs ++ ys))) 0 (λ n. suc (length xs) ≤ n) (λ e. omega arith) (λ e. absurd (both_ways (p x) e both.0))

letters_reach : (w r : List ℕ) → IsTrue (has_name_bytes w) → Reaches (length w) (front (w ++ r))
letters_reach [] r h = cc
letters_reach (b ∷ x) r h =
    cond_both {A = Option (Token × ℕ)} (is_letter b) _ _ (Reaches (suc (length x)))
    (λ e. leading_ge is_name_byte (b ∷ x) r (all_name_bytes b x h))
    (λ e. absurd (both_ways (is_letter b) e (and_parts (is_letter b) (all_bytes is_name_byte x) h).0))

digits_reach : (w r : List ℕ) → 0 < length w → IsTrue (all_bytes is_digit w) → Reaches (length w) (front (w ++ r))
digits_reach [] r some h = absurd (omega arith)
digits_reach (b ∷ x) r some h =
    let digit = (and_parts (is_digit b) (all_bytes is_digit x) h).0 in
    cond_both {A = Option (Token × ℕ)} (is_letter b) _ _ (Reaches (suc (length x)))
    (λ e. absurd (both_ways (is_letter b) (digit_no_letter b digit) e))
    (λ e. cond_both {A = Option (Token × ℕ)} (is_digit b) _ _ (Reaches (suc (length x)))
    (λ f. leading_ge is_digit (b ∷ x) r h)
    (λ f. absurd (both_ways (is_digit b) f digit)))

equals_reach : (r : List ℕ) → 1 ≤ (equals_token r).1
equals_reach [] = omega arith
equals_reach (b ∷ r) =
    cond_both {A = Token × ℕ} (b == 61) (Fixed mark.Same, 2) (Fixed mark.Becomes, 1) (λ p. 1 ≤ p.1) (λ e. omega arith) (λ e. omega arith)

mark_reaches : (m : Mark) (r : List ℕ) → Reaches (length (mark_bytes m)) (front (mark_bytes m ++ r))
mark_reaches mark.Global r = letters_reach (codes "global") r refl
mark_reaches mark.Fn r = letters_reach (codes "fn") r refl
mark_reaches mark.Return r = letters_reach (codes "return") r refl
mark_reaches mark.Null r = letters_reach (codes "null") r refl
mark_reaches mark.New r = letters_reach (codes "new") r refl
mark_reaches mark.Out r = letters_reach (codes "out") r refl
mark_reaches mark.If r = letters_reach (codes "if") r refl
mark_reaches mark.Else r = letters_reach (codes "else") r refl
mark_reaches mark.While r = letters_reach (codes "while") r refl
mark_reaches mark.Atomic r = letters_reach (codes "atomic") r refl
mark_reaches mark.Becomes r = equals_reach r
mark_reaches _ r = omega arith

reaches : (u : Token) (w r : List ℕ) → IsSpelling u w → Reaches (length w) (front (w ++ r))
reaches (Fixed m) w r s =
    subst (λ (x : List ℕ). Reaches (length x) (front (x ++ r))) (sym s) (mark_reaches m r)
reaches (Name x) w r s =
    subst (λ (y : List ℕ). Reaches (length y) (front (y ++ r))) (sym s.same) (letters_reach x r (and_parts (has_name_bytes x) _ s.real).0)
reaches (Number n) w r s = digits_reach w r s.some s.digits

reaches_in : (text : List ℕ) (u : Token) (k : ℕ) → IsSpelling u (take k text) → Reaches (length (take k text)) (front text)
reaches_in text u k s =
    subst (λ (bs : List ℕ). Reaches (length (take k text)) (front bs)) (take-append-drop k text) (reaches u (take k text) (drop k text) s)

front_by : (text : List ℕ) (o : Option (Token × ℕ)) → front text ≡ o → IsFront text o
front_by text None e = λ u k s. subst (Reaches (length (take k text))) e (reaches_in text u k s)
front_by text (Some (t, n)) e = record {
  within = (front_fits text t n e).1;
  spelled = subst (Spelled text) e (front_spelled text);
  longest = λ u k h s. subst (λ (j : ℕ). j ≤ n) (length-take-le k text h) (subst (Reaches (length (take k text))) e (reaches_in text u k s));
}

pub longest_front : (text : List ℕ) → IsFront text (front text)
longest_front text = front_by text (front text) refl

-- bytes spell one token at most, which stands at the front where nothing that it could continue with stands after
pub front_mark : (m : Mark) (r : List ℕ) → Apart r → front (mark_bytes m ++ r) ≡ Some (Fixed m, length (mark_bytes m))
front_mark mark.Global r a = front_letters (codes "global") r refl a.names
front_mark mark.Fn r a = front_letters (codes "fn") r refl a.names
front_mark mark.Return r a = front_letters (codes "return") r refl a.names
front_mark mark.Null r a = front_letters (codes "null") r refl a.names
front_mark mark.New r a = front_letters (codes "new") r refl a.names
front_mark mark.Out r a = front_letters (codes "out") r refl a.names
front_mark mark.If r a = front_letters (codes "if") r refl a.names
front_mark mark.Else r a = front_letters (codes "else") r refl a.names
front_mark mark.While r a = front_letters (codes "while") r refl a.names
front_mark mark.Atomic r a = front_letters (codes "atomic") r refl a.names
front_mark mark.Becomes r a = ap (λ (p : Token × ℕ). Some p) a.equals
front_mark _ r a = refl

pub front_spelling : (t : Token) (w r : List ℕ) → IsSpelling t w → Apart r → front (w ++ r) ≡ Some (t, length w)
front_spelling (Fixed m) w r s a =
    subst (λ (x : List ℕ). front (x ++ r) ≡ Some (Fixed m, length x)) (sym s) (front_mark m r a)
front_spelling (Name x) w r s a =
    subst (λ (y : List ℕ). front (y ++ r) ≡ Some (Name x, length y)) (sym s.same) (front_name x r s.real a.names)
front_spelling (Number n) w r s a =
    front_number w r s.some s.digits a.digits ∙ ap (λ (k : ℕ). Some (Number k, length w)) s.value

same_token : (t u : Token) (n : ℕ) (o : Option (Token × ℕ)) → o ≡ Some (t, n) → o ≡ Some (u, n) → t ≡ u
same_token t u n o p q =
    let e : Some (t, n) ≡ Some (u, n) = sym p ∙ q in
    let f : (t, n) ≡ (u, n) = cc in
    ap (λ (x : Token × ℕ). x.0) f

pub one_token : (w : List ℕ) (t u : Token) → IsSpelling t w → IsSpelling u w → t ≡ u
one_token w t u p q =
    let a : Apart [] = record { names = refl; digits = refl; equals = refl } in
    same_token t u (length w) (front (w ++ [])) (front_spelling t w [] p a) (front_spelling u w [] q a)

-- and so nothing else can be said of the front
same_front : (text : List ℕ) (o p : Option (Token × ℕ)) → IsFront text o → IsFront text p → o ≡ p
same_front text None None h k = refl
same_front text None (Some (u, j)) h k = absurd (h u j k.spelled)
same_front text (Some (t, n)) None h k = absurd (k t n h.spelled)
same_front text (Some (t, n)) (Some (u, j)) h k =
    let below : n ≤ j = k.longest t n h.within h.spelled in
    let above : j ≤ n = h.longest u j k.within k.spelled in
    let e : j ≡ n = omega arith in
    let f : t ≡ u = one_token (take n text) t u h.spelled (subst (λ (i : ℕ). IsSpelling u (take i text)) e k.spelled) in
    ap (λ (x : Token). Some (x, n)) f ∙ ap (λ (i : ℕ). Some (u, i)) (sym e)

pub only_front : (text : List ℕ) (o : Option (Token × ℕ)) → IsFront text o → o ≡ front text
only_front text o h = same_front text o (front text) h (longest_front text)

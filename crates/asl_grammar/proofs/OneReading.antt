-- A text has one list of tokens, and one place at most where none stands.
use Rattle.std.proofs.Common.{◌≡◌, ℕ, zero, suc, ◌+◌, ◌<◌, ◌≤◌, List, [], ◌∷◌, false, ◌==◌, Option, Some, None, IsTrue, refl, sym, ap, ◌∙◌, subst, arith, length, take, drop}
use Rattle.std.proofs.lemmas.Bool.{cond-true, and_parts, ne_eqb}
use Rattle.std.proofs.lemmas.List.{length-drop, take_all}
use Rattle.asl_grammar.specs.Token.{Token, Spot}
use Rattle.asl_grammar.specs.Lex.{is_blank, leading, front, spots, bad_from, tokens_of, bad_place, all_bytes, IsAtToken}
use Rattle.asl_grammar.specs.Bytes.{IsLongest, BeginsWithNone, IsFront}
use Rattle.asl_grammar.specs.Readings.{IsFirstToken, IsStop, IsEnd, IsReading}
use Rattle.asl_grammar.proofs.Apart.{at_token_front}
use Rattle.asl_grammar.proofs.Longest.{longest_front, only_front}
use Rattle.asl_grammar.proofs.Real.{taken_pass}
use Rattle.asl_grammar.proofs.Scan.{leading_le, front_fits, spots_blank, bad_blank, at_token, spots_token, bad_token, spots_none, bad_none, spots_at_none, bad_at_none}

-- blanks that are passed
spots_blanks : (n : ℕ) (text : List ℕ) (at : ℕ) → IsTrue (all_bytes is_blank (take n text)) → n ≤ length text → spots text 0 at ≡ spots (drop n text) 0 (at + n)
spots_blanks zero text at h w = ap (spots text 0) (omega arith)
spots_blanks (suc n) [] at h w = absurd (omega arith)
spots_blanks (suc n) (b ∷ bs) at h w =
    let both = and_parts (is_blank b) (all_bytes is_blank (take n bs)) h in
    let e : suc at + n ≡ at + suc n = omega arith in
    cond-true (is_blank b) _ _ both.0
    ∙ spots_blanks n bs (suc at) both.1 (omega arith)
    ∙ ap (spots (drop n bs) 0) e

bad_blanks : (n : ℕ) (text : List ℕ) (at : ℕ) → IsTrue (all_bytes is_blank (take n text)) → n ≤ length text → bad_from text 0 at ≡ bad_from (drop n text) 0 (at + n)
bad_blanks zero text at h w = ap (bad_from text 0) (omega arith)
bad_blanks (suc n) [] at h w = absurd (omega arith)
bad_blanks (suc n) (b ∷ bs) at h w =
    let both = and_parts (is_blank b) (all_bytes is_blank (take n bs)) h in
    let e : suc at + n ≡ at + suc n = omega arith in
    cond-true (is_blank b) _ _ both.0
    ∙ bad_blanks n bs (suc at) both.1 (omega arith)
    ∙ ap (bad_from (drop n bs) 0) e

no_spots : (text : List ℕ) (at : ℕ) → IsTrue (all_bytes is_blank text) → spots text 0 at ≡ []
no_spots [] at h = refl
no_spots (b ∷ bs) at h =
    let both = and_parts (is_blank b) (all_bytes is_blank bs) h in
    cond-true (is_blank b) _ _ both.0 ∙ no_spots bs (suc at) both.1

no_bad : (text : List ℕ) (at : ℕ) → IsTrue (all_bytes is_blank text) → bad_from text 0 at ≡ None
no_bad [] at h = refl
no_bad (b ∷ bs) at h =
    let both = and_parts (is_blank b) (all_bytes is_blank bs) h in
    cond-true (is_blank b) _ _ both.0 ∙ no_bad bs (suc at) both.1

-- a list of tokens is the one that is read
first_front : (text : List ℕ) (at : ℕ) (s : Spot) (rest : List ℕ) (next : ℕ) → (f : IsFirstToken text at s rest next) → front (drop f.blanks text) ≡ Some (s.token, f.len)
first_front text at s rest next f = sym (only_front (drop f.blanks text) (Some (s.token, f.len)) f.longest)

spots_first : (text : List ℕ) (at : ℕ) (s : Spot) (rest : List ℕ) (next : ℕ) → IsFirstToken text at s rest next → spots text 0 at ≡ s ∷ spots rest 0 next
spots_first text at s rest next f =
    let e = first_front text at s rest next f in
    spots_blanks f.blanks text at f.blank f.within
    ∙ spots_token (drop f.blanks text) (at + f.blanks) s.token f.len (at_token_front (drop f.blanks text) s.token f.len e) e
    ∙ ap (λ (n : ℕ). record { token = s.token; at = n } ∷ spots (drop f.len (drop f.blanks text)) 0 (at + f.blanks + f.len)) (sym f.place)
    ∙ ap (λ (n : ℕ). s ∷ spots (drop f.len (drop f.blanks text)) 0 n) (sym f.behind)
    ∙ ap (λ (bs : List ℕ). s ∷ spots bs 0 next) (sym f.left)

bad_first : (text : List ℕ) (at : ℕ) (s : Spot) (rest : List ℕ) (next : ℕ) → IsFirstToken text at s rest next → bad_from text 0 at ≡ bad_from rest 0 next
bad_first text at s rest next f =
    let e = first_front text at s rest next f in
    bad_blanks f.blanks text at f.blank f.within
    ∙ bad_token (drop f.blanks text) (at + f.blanks) s.token f.len (at_token_front (drop f.blanks text) s.token f.len e) e
    ∙ ap (λ (n : ℕ). bad_from (drop f.len (drop f.blanks text)) 0 n) (sym f.behind)
    ∙ ap (λ (bs : List ℕ). bad_from bs 0 next) (sym f.left)

stop_none : (text : List ℕ) (at place : ℕ) → (e : IsStop text at place) → None ≡ front (drop e.blanks text)
stop_none text at place e = only_front (drop e.blanks text) None e.none

some_left : (n : ℕ) (text : List ℕ) → n < length text → (length (drop n text) == 0) ≡ false
some_left n text h = ne_eqb (length (drop n text)) 0 (λ e. omega (arith, length-drop n text))

end_spots : (end : Option ℕ) (text : List ℕ) (at : ℕ) → IsEnd text at end → spots text 0 at ≡ []
end_spots None text at e = no_spots text at e
end_spots (Some place) text at e =
    spots_blanks e.blanks text at e.blank (omega (arith, e.within))
    ∙ spots_at_none (drop e.blanks text) (at + e.blanks) e.here (stop_none text at place e)

end_bad : (end : Option ℕ) (text : List ℕ) (at : ℕ) → IsEnd text at end → bad_from text 0 at ≡ end
end_bad None text at e = no_bad text at e
end_bad (Some place) text at e =
    bad_blanks e.blanks text at e.blank (omega (arith, e.within))
    ∙ bad_at_none (drop e.blanks text) (at + e.blanks) e.here (stop_none text at place e) (some_left e.blanks text e.within)
    ∙ ap (λ (n : ℕ). Some n) (sym e.place)

reading_spots : (ss : List Spot) (text : List ℕ) (at : ℕ) (end : Option ℕ) → IsReading text at ss end → ss ≡ spots text 0 at
reading_spots [] text at end r = sym (end_spots end text at r)
reading_spots (s ∷ ss) text at end r =
    let rest : List ℕ = r.0 in
    let next : ℕ = r.1 in
    ap (λ (us : List Spot). s ∷ us) (reading_spots ss rest next end r.3) ∙ sym (spots_first text at s rest next r.2)

reading_bad : (ss : List Spot) (text : List ℕ) (at : ℕ) (end : Option ℕ) → IsReading text at ss end → bad_from text 0 at ≡ end
reading_bad [] text at end r = end_bad end text at r
reading_bad (s ∷ ss) text at end r =
    let rest : List ℕ = r.0 in
    let next : ℕ = r.1 in
    bad_first text at s rest next r.2 ∙ reading_bad ss rest next end r.3

pub only_tokens : (text : List ℕ) (ss : List Spot) (end : Option ℕ) → IsReading text 0 ss end → ss ≡ tokens_of text
only_tokens text ss end r = reading_spots ss text 0 end r

pub only_end : (text : List ℕ) (ss : List Spot) (end : Option ℕ) → IsReading text 0 ss end → end ≡ bad_place text
only_end text ss end r = sym (reading_bad ss text 0 end r)

-- and what is read is such a list: by the number of bytes that are left
blank_all : (text : List ℕ) → drop (leading is_blank text) text ≡ [] → IsTrue (all_bytes is_blank text)
blank_all text e =
    let n : ℕ = leading is_blank text in
    let none : length (drop n text) ≡ 0 = ap length e in
    let whole : take n text ≡ text = take_all n text (omega (arith, length-drop n text)) in
    subst (λ (bs : List ℕ). IsTrue (all_bytes is_blank bs)) whole (taken_pass is_blank text)

abbrev Reads : ℕ → Type 0
Reads k = (text : List ℕ) (at : ℕ) → length text ≤ k → IsReading text at (spots text 0 at) (bad_from text 0 at)

-- the same reading, where what is read is said in other words
same_reading : (text : List ℕ) (at : ℕ) (ss us : List Spot) (end last : Option ℕ) → ss ≡ us → end ≡ last → IsReading text at us last → IsReading text at ss end
same_reading text at ss us end last e f r =
    subst (λ (xs : List Spot). IsReading text at xs end) (sym e) (subst (IsReading text at us) (sym f) r)

reads_token : (k : ℕ) → Reads k → (text : List ℕ) (at : ℕ) (xs : List ℕ) → drop (leading is_blank text) text ≡ xs → IsAtToken xs → length xs ≤ suc k → (o : Option (Token × ℕ)) → front xs ≡ o → IsReading text at (spots xs 0 (at + leading is_blank text)) (bad_from xs 0 (at + leading is_blank text))
reads_token k go text at [] e a h o f = blank_all text e
reads_token k go text at (b ∷ bs) e a h None f =
    let n : ℕ = leading is_blank text in
    let xs : List ℕ = b ∷ bs in
    let stop : IsStop text at (at + n) = record {
      blanks = n;
      within = omega (arith, length-drop n text, ap length e);
      blank = taken_pass is_blank text;
      here = subst IsAtToken (sym e) a;
      none = subst BeginsWithNone (sym e) (subst (IsFront xs) f (longest_front xs));
      place = refl;
    } in
    same_reading text at (spots xs 0 (at + n)) [] (bad_from xs 0 (at + n)) (Some (at + n)) (spots_none b bs (at + n) a f) (bad_none b bs (at + n) a f) stop
reads_token k go text at (b ∷ bs) e a h (Some (t, m)) f =
    let n : ℕ = leading is_blank text in
    let xs : List ℕ = b ∷ bs in
    let fit : (0 < m) × (m ≤ length xs) = front_fits xs t m f in
    let first : IsFirstToken text at (record { token = t; at = at + n }) (drop m xs) (at + n + m) = record {
      blanks = n;
      within = leading_le is_blank text;
      blank = taken_pass is_blank text;
      place = refl;
      len = m;
      longest = subst (λ (ys : List ℕ). IsLongest ys t m) (sym e) (subst (IsFront xs) f (longest_front xs));
      left = ap (drop m) (sym e);
      behind = refl;
    } in
    let less : length (drop m xs) ≤ k = omega (arith, length-drop m xs) in
    same_reading text at (spots xs 0 (at + n)) (record { token = t; at = at + n } ∷ spots (drop m xs) 0 (at + n + m)) (bad_from xs 0 (at + n)) (bad_from (drop m xs) 0 (at + n + m)) (spots_token xs (at + n) t m a f) (bad_token xs (at + n) t m a f) (drop m xs, at + n + m, first, go (drop m xs) (at + n + m) less)

reads : (k : ℕ) → Reads k
reads zero [] at h = refl
reads zero (b ∷ bs) at h = absurd (omega arith)
reads (suc k) text at h =
    let n : ℕ = leading is_blank text in
    let xs : List ℕ = drop n text in
    let less : length xs ≤ suc k = omega (arith, length-drop n text) in
    same_reading text at (spots text 0 at) (spots xs 0 (at + n)) (bad_from text 0 at) (bad_from xs 0 (at + n)) (spots_blank text at) (bad_blank text at)
    (reads_token k (λ t a i. reads k t a i) text at xs refl (at_token text) less (front xs) refl)

pub is_reading : (text : List ℕ) → IsReading text 0 (tokens_of text) (bad_place text)
is_reading text = reads (length text) text 0 (omega arith)

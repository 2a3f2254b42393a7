-- The first line and the first word of a list of bytes, as the lengths of prefixes cut them.
use Rattle.std.proofs.Common.{◌≡◌, ℕ, ◌<◌, true, false, List, [], ◌∷◌, length, take, drop, refl, suc, ap, ◌∙◌, inl, inr, arith}
use Rattle.std.specs.Prelude.{◌==◌}
use Rattle.std.specs.List.{prefix_len}
use Rattle.std.proofs.Math.Numerals.{one-add}
use Rattle.std.proofs.lemmas.Bool.{cases_Bool}
use Rattle.asl_assembler.specs.Words.{lines_of, with_first, words_of, is_separator}
use Rattle.asl_assembler.specs.Reading.{is_line_byte, is_word_byte}

line_end : (b : ℕ) (bs : List ℕ) → (b == 10) ≡ true → lines_of (b ∷ bs) ≡ take (prefix_len is_line_byte (b ∷ bs)) (b ∷ bs) ∷ lines_of (drop 1 (drop (prefix_len is_line_byte (b ∷ bs)) (b ∷ bs)))
line_end b bs h = rw h refl

pub first_line : (text : List ℕ) → 0 < length text → lines_of text ≡ take (prefix_len is_line_byte text) text ∷ lines_of (drop 1 (drop (prefix_len is_line_byte text) text))
first_line [] some = absurd (omega arith)
first_line (b ∷ []) some = elim (cases_Bool (b == 10)) [ inl h ↦ line_end b [] h | inr h ↦ rw h refl ]
first_line (b ∷ c ∷ bs) some =
    elim (cases_Bool (b == 10)) [
      | inl h ↦ line_end b (c ∷ bs) h
      | inr h ↦ rw (h, one-add (prefix_len is_line_byte (c ∷ bs))) (ap (with_first b) (first_line (c ∷ bs) (omega arith)))
    ]

-- Where a separator is the first byte, the gap has it; else there is no gap.
gap_more : (b : ℕ) (bs : List ℕ) → is_separator b ≡ true → prefix_len is_separator (b ∷ bs) ≡ suc (prefix_len is_separator bs)
gap_more b bs h = rw h (one-add (prefix_len is_separator bs))

gap_none : (b : ℕ) (bs : List ℕ) → is_separator b ≡ false → prefix_len is_separator (b ∷ bs) ≡ 0
gap_none b bs h = rw h refl

skipped : (b : ℕ) (bs : List ℕ) → is_separator b ≡ true → words_of (b ∷ bs) ≡ words_of bs
skipped b bs h = rw h refl

pub past_gap : (line : List ℕ) → words_of line ≡ words_of (drop (prefix_len is_separator line) line)
past_gap [] = refl
past_gap (b ∷ bs) =
    elim (cases_Bool (is_separator b)) [
      | inl h ↦ rw (gap_more b bs h) (skipped b bs h ∙ past_gap bs)
      | inr h ↦ rw (gap_none b bs h) refl
    ]

-- A word continues over a byte that is no separator.
word_more : (b : ℕ) (bs : List ℕ) → is_separator b ≡ false → prefix_len is_word_byte (b ∷ bs) ≡ suc (prefix_len is_word_byte bs)
word_more b bs h = rw h (one-add (prefix_len is_word_byte bs))

pub goes_on : (b c : ℕ) (bs : List ℕ) → is_separator b ≡ false → is_separator c ≡ false → words_of (b ∷ c ∷ bs) ≡ with_first b (words_of (c ∷ bs))
goes_on b c bs h k = rw (h, k) refl

ended : (b c : ℕ) (bs : List ℕ) → is_separator b ≡ false → is_separator c ≡ true → words_of (b ∷ c ∷ bs) ≡ (b ∷ []) ∷ words_of (c ∷ bs)
ended b c bs h k = rw (h, k) refl

no_more : (c : ℕ) (bs : List ℕ) → is_separator c ≡ true → prefix_len is_word_byte (c ∷ bs) ≡ 0
no_more c bs k = rw k refl

whole_word : (b : ℕ) (bs : List ℕ) → is_separator b ≡ false → words_of (b ∷ bs) ≡ take (prefix_len is_word_byte (b ∷ bs)) (b ∷ bs) ∷ words_of (drop (prefix_len is_word_byte (b ∷ bs)) (b ∷ bs))
whole_word b [] h = rw (word_more b [] h) (rw h refl)
whole_word b (c ∷ bs) h =
    rw (word_more b (c ∷ bs) h) (elim (cases_Bool (is_separator c)) [
      | inl k ↦ rw (no_more c bs k) (ended b c bs h k)
      | inr k ↦ goes_on b c bs h k ∙ ap (with_first b) (whole_word c bs k)
    ])

-- The first word of a line that has one.
pub first_word : (line : List ℕ) → 0 < length (drop (prefix_len is_separator line) line)
    → words_of line ≡ take (prefix_len is_word_byte (drop (prefix_len is_separator line) line)) (drop (prefix_len is_separator line) line)
    ∷ words_of (drop (prefix_len is_word_byte (drop (prefix_len is_separator line) line)) (drop (prefix_len is_separator line) line))
first_word [] some = absurd (omega arith)
first_word (b ∷ bs) some =
    elim (cases_Bool (is_separator b)) [
      | inl h ↦ rw (gap_more b bs h) (skipped b bs h ∙ first_word bs (rw (gap_more b bs h) at some))
      | inr h ↦ rw (gap_none b bs h) (whole_word b bs h)
    ]

-- And it has a byte.
pub word_some : (line : List ℕ) → 0 < length (drop (prefix_len is_separator line) line) → 0 < prefix_len is_word_byte (drop (prefix_len is_separator line) line)
word_some [] some = absurd (omega arith)
word_some (b ∷ bs) some =
    elim (cases_Bool (is_separator b)) [
      | inl h ↦ rw (gap_more b bs h) (word_some bs (rw (gap_more b bs h) at some))
      | inr h ↦ rw (gap_none b bs h, word_more b bs h) (omega arith)
    ]

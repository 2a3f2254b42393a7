-- The text of a line has no line feed but its last byte, and its words are those of the line's tokens.
use Rattle.std.proofs.Common.{◌≡◌, ℕ, Bool, true, false, List, [], ◌∷◌, ◌++◌, map, refl, sym, ap, ◌∙◌, inl, inr, arith, append_assoc, append-nil}
use Rattle.std.specs.Prelude.{codes, not, ◌==◌}
use Rattle.std.specs.List.{list_all, AllByRecursion}
use Rattle.std.proofs.lemmas.Bool.{cases_Bool, and_from, and_parts}
use Rattle.std.proofs.lemmas.List.Folds.{list_all-append}
use Rattle.asl_assembler.specs.declared.line.Line.{Line}
use Rattle.asl_assembler.specs.declared.line.Line.TheVariants as line
use Rattle.asl_assembler.specs.Words.{Token, lines_of, with_first, words_of, is_separator}
use Rattle.asl_assembler.specs.Canonical.{word_of, later_words, operands, joined, between_operands}
use Rattle.asl_assembler.proofs.Split.{goes_on}
use Rattle.asl_assembler.proofs.Decimals.{is_inner, IsSolid, IsWritten}

-- The bytes of a line stand in front of the first line feed.
abbrev is_line_part : ℕ → Bool
is_line_part b = not (b == 10)

pub line_cut : (part rest : List ℕ) → list_all is_line_part part ≡ true → lines_of (part ++ 10 ∷ rest) ≡ part ∷ lines_of rest
line_cut [] rest h = refl
line_cut (b ∷ bs) rest h =
    let parts = and_parts (is_line_part b) (list_all is_line_part bs) h in
    elim (cases_Bool (b == 10)) [
      | inl k ↦ (let none : false ≡ true = rw k at parts.0 in absurd (cc))
      | inr k ↦ rw k (ap (with_first b) (line_cut bs rest parts.1))
    ]

-- A word ends at a separator or at the end of the line.
no_separator : (b : ℕ) → is_inner b ≡ true → (is_separator b ≡ false) × ((b == 10) ≡ false)
no_separator b h =
    elim (cases_Bool (is_separator b)) [
      | inl k ↦ (let none : false ≡ true = rw k at h in absurd (cc))
      | inr k ↦ elim (cases_Bool (b == 10)) [
        | inl j ↦ (let none : false ≡ true = rw (k, j) at h in absurd (cc))
        | inr j ↦ (k, j)
      ]
    ]

word_before : (word : List ℕ) (s : ℕ) (rest : List ℕ) → is_separator s ≡ true → IsSolid word → words_of (word ++ s ∷ rest) ≡ word ∷ words_of (s ∷ rest)
word_before [] s rest sep h = absurd (omega (arith, h.some))
word_before (b ∷ []) s rest sep h =
    let inner = no_separator b (and_parts (is_inner b) true h.inner).0 in
    rw (inner.0, sep) refl
word_before (b ∷ c ∷ bs) s rest sep h =
    let parts = and_parts (is_inner b) (list_all is_inner (c ∷ bs)) h.inner in
    let inner = no_separator b parts.0 in
    let next = no_separator c (and_parts (is_inner c) (list_all is_inner bs) parts.1).0 in
    goes_on b c (bs ++ s ∷ rest) inner.0 next.0 ∙ ap (with_first b) (word_before (c ∷ bs) s rest sep (record { inner = parts.1; some = omega arith }))

word_last : (word : List ℕ) → IsSolid word → words_of word ≡ word ∷ []
word_last [] h = absurd (omega (arith, h.some))
word_last (b ∷ []) h =
    let inner = no_separator b (and_parts (is_inner b) true h.inner).0 in
    rw inner.0 refl
word_last (b ∷ c ∷ bs) h =
    let parts = and_parts (is_inner b) (list_all is_inner (c ∷ bs)) h.inner in
    let inner = no_separator b parts.0 in
    let next = no_separator c (and_parts (is_inner c) (list_all is_inner bs) parts.1).0 in
    goes_on b c bs inner.0 next.0 ∙ ap (with_first b) (word_last (c ∷ bs) (record { inner = parts.1; some = omega arith }))

-- What may stand between words.
pub record IsGap (between : List ℕ) : Type 0 where
  pub skipped : (word rest : List ℕ) → IsSolid word → words_of (word ++ (between ++ rest)) ≡ word ∷ words_of rest
  pub part : list_all is_line_part between ≡ true

space : IsGap (codes " ")
space = record { skipped = (λ word rest h. word_before word 32 rest refl h); part = refl }

comma : IsGap (codes ", ")
comma = record { skipped = (λ word rest h. word_before word 44 (32 ∷ rest) refl h); part = refl }

pub gap_of : (l : Line) → IsGap (between_operands l)
gap_of (line.Version n) = space
gap_of (line.Classes count) = space
gap_of (line.Global class) = space
gap_of (line.Entry function) = space
gap_of (line.Function params regs) = space
gap_of (line.Instruction i) = comma
gap_of line.List = space
gap_of (line.Lock l) = space

-- A line without its line feed.
abbrev later_part : List ℕ → List Token → List ℕ
later_part between [] = []
later_part between (t ∷ ts) = between ++ (word_of t ++ later_part between ts)

abbrev operands_part : List ℕ → List Token → List ℕ
operands_part between [] = []
operands_part between (t ∷ ts) = codes " " ++ (word_of t ++ later_part between ts)

abbrev pub joined_part : List ℕ → List Token → List ℕ
joined_part between [] = []
joined_part between (t ∷ ts) = word_of t ++ operands_part between ts

longer_end : (between word text part rest : List ℕ) → text ++ rest ≡ part ++ 10 ∷ rest → (between ++ (word ++ text)) ++ rest ≡ (between ++ (word ++ part)) ++ 10 ∷ rest
longer_end between word text part rest e =
    append_assoc between (word ++ text) rest
    ∙ ap (λ (t : List ℕ). between ++ t) (append_assoc word text rest ∙ ap (λ (t : List ℕ). word ++ t) e ∙ sym (append_assoc word part (10 ∷ rest)))
    ∙ sym (append_assoc between (word ++ part) (10 ∷ rest))

later_end : (between : List ℕ) (ts : List Token) (rest : List ℕ) → later_words between ts ++ rest ≡ later_part between ts ++ 10 ∷ rest
later_end between [] rest = refl
later_end between (t ∷ ts) rest = longer_end between (word_of t) (later_words between ts) (later_part between ts) rest (later_end between ts rest)

operands_end : (between : List ℕ) (ts : List Token) (rest : List ℕ) → operands between ts ++ rest ≡ operands_part between ts ++ 10 ∷ rest
operands_end between [] rest = refl
operands_end between (t ∷ ts) rest = longer_end (codes " ") (word_of t) (later_words between ts) (later_part between ts) rest (later_end between ts rest)

pub joined_end : (between : List ℕ) (ts : List Token) (rest : List ℕ) → joined between ts ++ rest ≡ joined_part between ts ++ 10 ∷ rest
joined_end between [] rest = refl
joined_end between (t ∷ ts) rest = longer_end [] (word_of t) (operands between ts) (operands_part between ts) rest (operands_end between ts rest)

-- It has no line feed.
inner_part : (word : List ℕ) → list_all is_inner word ≡ true → list_all is_line_part word ≡ true
inner_part [] h = refl
inner_part (b ∷ bs) h =
    let parts = and_parts (is_inner b) (list_all is_inner bs) h in
    let feed : is_line_part b ≡ true = rw (no_separator b parts.0).1 refl in
    and_from (is_line_part b) (list_all is_line_part bs) feed (inner_part bs parts.1)

both_parts : (a b : List ℕ) → list_all is_line_part a ≡ true → list_all is_line_part b ≡ true → list_all is_line_part (a ++ b) ≡ true
both_parts a b h k = list_all-append is_line_part a b ∙ and_from (list_all is_line_part a) (list_all is_line_part b) h k

word_part : (t : Token) → IsWritten t → list_all is_line_part (word_of t) ≡ true
word_part t h = inner_part (word_of t) h.solid.inner

later_is_part : (between : List ℕ) → IsGap between → (ts : List Token) → AllByRecursion IsWritten ts → list_all is_line_part (later_part between ts) ≡ true
later_is_part between gap [] h = refl
later_is_part between gap (t ∷ ts) h = both_parts between (word_of t ++ later_part between ts) gap.part (both_parts (word_of t) (later_part between ts) (word_part t h.0) (later_is_part between gap ts h.1))

operands_are_part : (between : List ℕ) → IsGap between → (ts : List Token) → AllByRecursion IsWritten ts → list_all is_line_part (operands_part between ts) ≡ true
operands_are_part between gap [] h = refl
operands_are_part between gap (t ∷ ts) h = both_parts (codes " ") (word_of t ++ later_part between ts) refl (both_parts (word_of t) (later_part between ts) (word_part t h.0) (later_is_part between gap ts h.1))

pub joined_is_part : (between : List ℕ) → IsGap between → (ts : List Token) → AllByRecursion IsWritten ts → list_all is_line_part (joined_part between ts) ≡ true
joined_is_part between gap [] h = refl
joined_is_part between gap (t ∷ ts) h = both_parts (word_of t) (operands_part between ts) (word_part t h.0) (operands_are_part between gap ts h.1)

-- Its words are the tokens' words.
word_alone : (word : List ℕ) → IsSolid word → words_of (word ++ []) ≡ word ∷ []
word_alone word h = rw (append-nil word) (word_last word h)

words_then : (between : List ℕ) → IsGap between → (word : List ℕ) → IsSolid word → (ts : List Token) → AllByRecursion IsWritten ts → words_of (word ++ later_part between ts) ≡ word ∷ map word_of ts
words_then between gap word solid [] h = word_alone word solid
words_then between gap word solid (t ∷ ts) h =
    gap.skipped word (word_of t ++ later_part between ts) solid
    ∙ ap (λ (ws : List (List ℕ)). word ∷ ws) (words_then between gap (word_of t) h.0.solid ts h.1)

pub joined_words : (between : List ℕ) → IsGap between → (ts : List Token) → AllByRecursion IsWritten ts → words_of (joined_part between ts) ≡ map word_of ts
joined_words between gap [] h = refl
joined_words between gap (t ∷ []) h = word_alone (word_of t) h.0.solid
joined_words between gap (t ∷ u ∷ ts) h =
    space.skipped (word_of t) (word_of u ++ later_part between ts) h.0.solid
    ∙ ap (λ (ws : List (List ℕ)). word_of t ∷ ws) (words_then between gap (word_of u) h.1.0.solid ts h.1.1)

-- Instructions in a row, and what one of them does to the state.
use Rattle.std.proofs.Common.{◌≡◌, ℕ, ◌+◌, List, [], ◌∷◌, ◌++◌, Option, Some, None, refl, sym, ap, ◌∙◌}
use Rattle.std.specs.Option.{option_map}
use Rattle.asl_code.specs.declared.image.Image.{Image}
use Rattle.asl_code.specs.declared.image.Function.{Function}
use Rattle.asl_code.specs.declared.instr.Instr.{Instr}
use Rattle.asl_assembler.specs.declared.keyword.Keyword.{Keyword}
use Rattle.asl_assembler.specs.declared.keyword.Keyword.TheVariants as keyword
use Rattle.asl_assembler.specs.declared.line.Line.TheVariants as line
use Rattle.asl_assembler.specs.declared.image_draft.Place.{Place}
use Rattle.asl_assembler.specs.declared.image_draft.Place.TheVariants as place
use Rattle.asl_assembler.specs.Words.{lines_of, words_of}
use Rattle.asl_assembler.specs.Reading.{◌>>=◌, instr_of, with_numbers_of, line_of, keyword_of, meaning_of, longer, next, paired, step_words, step_line, image_from, BeginsWith}

-- a keyword that makes an instruction of words makes no other line of them
named_instr : (k : Keyword) (words : List (List ℕ)) (x : Instr) → instr_of k words ≡ Some x → line_of k words ≡ Some (line.Instruction x)
unfolding instr_of with_numbers_of line_of
named_instr keyword.Version words x e = absurd cc
named_instr keyword.Classes words x e = absurd cc
named_instr keyword.Global words x e = absurd cc
named_instr keyword.Entry words x e = absurd cc
named_instr keyword.Function words x e = absurd cc
named_instr keyword.List words x e = absurd cc
named_instr keyword.Root words x e = absurd cc
named_instr keyword.Class words x e = absurd cc
named_instr keyword.Expr words x e = absurd cc
named_instr k words x e = ap (option_map line.Instruction) e

-- the words of an instruction
pub instr_said : (word : List ℕ) (words : List (List ℕ)) (k : Keyword) (x : Instr) → keyword_of word ≡ Some k → instr_of k words ≡ Some x
    → meaning_of (word ∷ words) ≡ Some (line.Instruction x)
unfolding meaning_of
instr_said word words k x named made = ap (λ o. o >>= λ k. line_of k words) named ∙ named_instr k words x made

no_meaning : meaning_of [] ≡ None
unfolding meaning_of
no_meaning = refl

abbrev with_instr : Image → Instr → Image
with_instr i x = record i { code = i.code ++ x ∷ [] }

words_taken : (f : Function) (i : Image) (x : Instr) (words : List (List ℕ)) → meaning_of words ≡ Some (line.Instruction x)
    → step_words (place.Body f) i words ≡ Some (place.Body (longer f), with_instr i x)
unfolding next
words_taken f i x [] e = let none = no_meaning in absurd cc
words_taken f i x (word ∷ words) e = ap (λ o. o >>= λ m. next (place.Body f) m i) e

line_taken : (f : Function) (i : Image) (x : Instr) (l : List ℕ) → meaning_of (words_of l) ≡ Some (line.Instruction x)
    → step_line (place.Body f) i l ≡ Some (place.Body (longer f), with_instr i x)
unfolding step_line
line_taken f i x l e = words_taken f i x (words_of l) e

-- the first line is taken in
pub instr_taken : (n : ℕ) (f : Function) (i : Image) (text rest : List ℕ) (x : Instr) → BeginsWith text (line.Instruction x) rest
    → image_from n (place.Body f) i (lines_of text) ≡ image_from (n + 1) (place.Body (longer f)) (with_instr i x) (lines_of rest)
instr_taken n f i text rest x b =
    let taken = line_taken f i x b.first b.said in
    let step : image_from n (place.Body f) i (b.first ∷ lines_of rest) ≡ image_from (n + 1) (place.Body (longer f)) (with_instr i x) (lines_of rest) = rw taken refl in
    ap (image_from n (place.Body f) i) b.split ∙ step

-- the first line, whatever it says, is taken in
pub line_read : (n : ℕ) (p q : Place) (i k : Image) (l rest after : List ℕ) (o : Option Place) → lines_of rest ≡ l ∷ lines_of after
    → paired o k ≡ step_line p i l → o ≡ Some q → image_from n p i (lines_of rest) ≡ image_from (n + 1) q k (lines_of after)
line_read n p q i k l rest after o split taken next =
    let state : paired o k ≡ Some (q, k) = rw next refl in
    let step : step_line p i l ≡ Some (q, k) = sym taken ∙ state in
    let here : image_from n p i (l ∷ lines_of after) ≡ image_from (n + 1) q k (lines_of after) = rw step refl in
    ap (image_from n p i) split ∙ here

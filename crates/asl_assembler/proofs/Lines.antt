-- The canonical text, split into lines and words.
use Rattle.std.proofs.Common.{◌≡◌, ℕ, pos, neg_ℤ, ◌+◌, ◌<◌, ◌^◌, List, [], ◌∷◌, ◌++◌, map, refl, sym, ap, subst, ◌∙◌, zero, suc, inl, inr, arith}
use Rattle.std.specs.Prelude.{FitsSigned}
use Rattle.std.specs.Int.{w32}
use Rattle.std.specs.List.{flat_map, AllByRecursion}
use Rattle.asl_code.specs.declared.instr.Instr.{Instr}
use Rattle.asl_code.specs.declared.instr.Instr.TheVariants as instr
use Rattle.asl_code.specs.declared.lock.Lock.{Lock}
use Rattle.asl_code.specs.declared.lock.Lock.TheVariants as lock
use Rattle.asl_assembler.specs.declared.line.Line.{Line}
use Rattle.asl_assembler.specs.declared.line.Line.TheVariants as line
use Rattle.asl_assembler.specs.Words.{Token, Name, Byte, Short, Integer, Register, GlobalName, Star, Offset, IsWord, AreWords, lines_of, words_of}
use Rattle.asl_assembler.specs.Text.{AreLines, unless_blank, worded, tokens_of}
use Rattle.asl_assembler.specs.Canonical.{word_of, between_operands, line_text, FitsField, FitsLine}
use Rattle.asl_assembler.proofs.Decimals.{IsWritten, written}
use Rattle.asl_assembler.proofs.LineWords.{line_cut, gap_of, joined_part, joined_end, joined_is_part, joined_words}

-- They are words of the tokens.
all_written : (ts : List Token) → AllByRecursion FitsField ts → AllByRecursion IsWritten ts
all_written [] h = tt
all_written (t ∷ ts) h = (written t h.0, all_written ts h.1)

are_words : (ts : List Token) → AllByRecursion IsWritten ts → AreWords ts (map word_of ts)
are_words [] h = tt
are_words (t ∷ ts) h = (h.0.word, are_words ts h.1)

-- A line has a word.
record HasWord (ts : List Token) : Type 0 where
  first : Token
  others : List Token
  is : ts ≡ first ∷ others

instr_word : (i : Instr) → HasWord (tokens_of (line.Instruction i))
instr_word (instr.SetInt a b) = record { first = _; others = _; is = refl }
instr_word (instr.SetNull a) = record { first = _; others = _; is = refl }
instr_word (instr.Move a b) = record { first = _; others = _; is = refl }
instr_word (instr.Add a b c) = record { first = _; others = _; is = refl }
instr_word (instr.Subtract a b c) = record { first = _; others = _; is = refl }
instr_word (instr.LessThan a b c) = record { first = _; others = _; is = refl }
instr_word (instr.Equals a b c) = record { first = _; others = _; is = refl }
instr_word (instr.GlobalAddress a b) = record { first = _; others = _; is = refl }
instr_word (instr.FieldAddress a b c) = record { first = _; others = _; is = refl }
instr_word (instr.Load a b) = record { first = _; others = _; is = refl }
instr_word (instr.Store a b) = record { first = _; others = _; is = refl }
instr_word (instr.New a b c) = record { first = _; others = _; is = refl }
instr_word (instr.Jump a) = record { first = _; others = _; is = refl }
instr_word (instr.JumpIfZero a b) = record { first = _; others = _; is = refl }
instr_word (instr.Call a b c) = record { first = _; others = _; is = refl }
instr_word (instr.Return a) = record { first = _; others = _; is = refl }
instr_word (instr.Output a) = record { first = _; others = _; is = refl }
instr_word (instr.Acquire a) = record { first = _; others = _; is = refl }
instr_word instr.Release = record { first = _; others = _; is = refl }

lock_word : (l : Lock) → HasWord (tokens_of (line.Lock l))
lock_word (lock.Root e) = record { first = _; others = _; is = refl }
lock_word (lock.Class c e) = record { first = _; others = _; is = refl }
lock_word (lock.Expr x e) = record { first = _; others = _; is = refl }

has_word : (l : Line) → HasWord (tokens_of l)
has_word (line.Version n) = record { first = _; others = _; is = refl }
has_word (line.Classes count) = record { first = _; others = _; is = refl }
has_word (line.Global class) = record { first = _; others = _; is = refl }
has_word (line.Entry function) = record { first = _; others = _; is = refl }
has_word (line.Function params regs) = record { first = _; others = _; is = refl }
has_word (line.Instruction i) = instr_word i
has_word line.List = record { first = _; others = _; is = refl }
has_word (line.Lock l) = lock_word l

not_blank : (ts : List Token) (more : List (List (List ℕ))) → HasWord ts → unless_blank (map word_of ts) more ≡ map word_of ts ∷ more
not_blank ts more h = rw h.is refl

-- The words of lines that are written one after the other.
abbrev line_words : Line → List (List ℕ)
line_words l = map word_of (tokens_of l)

texts_split : (ls : List Line) → AllByRecursion FitsLine ls → worded (lines_of (flat_map line_text ls)) ≡ map line_words ls
texts_split [] h = refl
texts_split (l ∷ ls) h =
    let between : List ℕ = between_operands l in
    let ts : List Token = tokens_of l in
    let part : List ℕ = joined_part between ts in
    let rest : List ℕ = flat_map line_text ls in
    let w = all_written ts h.0.fields in
    let first : lines_of (line_text l ++ rest) ≡ part ∷ lines_of rest = ap lines_of (joined_end between ts rest) ∙ line_cut part rest (joined_is_part between (gap_of l) ts w) in
    let words : words_of part ≡ map word_of ts = joined_words between (gap_of l) ts w in
    ap worded first ∙ ap (λ (ws : List (List ℕ)). unless_blank ws (worded (lines_of rest))) words ∙ not_blank ts (worded (lines_of rest)) (has_word l)
    ∙ ap (λ (more : List (List (List ℕ))). map word_of ts ∷ more) (texts_split ls h.1)

are_lines : (ls : List Line) → AllByRecursion FitsLine ls → AreLines ls (map line_words ls)
are_lines [] h = tt
are_lines (l ∷ ls) h = (record { spelled = are_words (tokens_of l) (all_written (tokens_of l) h.0.fields); kept = h.0.kept }, are_lines ls h.1)

pub lines_spelled : (ls : List Line) → AllByRecursion FitsLine ls → AreLines ls (worded (lines_of (flat_map line_text ls)))
lines_spelled ls h = rw (texts_split ls h) (are_lines ls h)

-- What words spell fits.
negative_fits : (n : ℕ) → n < 2 ^ 31 + 1 → FitsSigned w32 (neg_ℤ (pos n))
negative_fits zero h = record { sfits = omega arith }
negative_fits (suc n) h = record { sfits = omega arith }

word_fits : (t : Token) (word : List ℕ) → IsWord t word → FitsField t
word_fits (Name k) word h = tt
word_fits (Byte n) word h = h.fits
word_fits (Short n) word h = h.fits
word_fits (Integer z) word (inl h) = subst (FitsSigned w32) (sym h.2) (record { sfits = h.1.fits })
word_fits (Integer z) [] (inr h) = absurd h.1
word_fits (Integer z) (c ∷ word) (inr h) = subst (FitsSigned w32) (sym h.2) (negative_fits h.0 h.1.1.fits)
word_fits (Register n) [] h = absurd h
word_fits (Register n) (c ∷ word) h = h.1.fits
word_fits (GlobalName n) [] h = absurd h
word_fits (GlobalName n) (c ∷ word) h = h.1.fits
word_fits Star word h = tt
word_fits (Offset n) [] h = absurd h
word_fits (Offset n) (c ∷ word) h = h.1.fits

words_fit : (ts : List Token) (words : List (List ℕ)) → AreWords ts words → AllByRecursion FitsField ts
words_fit [] words h = tt
words_fit (t ∷ ts) [] h = absurd h
words_fit (t ∷ ts) (word ∷ words) h = (word_fits t word h.0, words_fit ts words h.1)

pub lines_fit : (ls : List Line) (words : List (List (List ℕ))) → AreLines ls words → AllByRecursion FitsLine ls
lines_fit [] words h = tt
lines_fit (l ∷ ls) [] h = absurd h
lines_fit (l ∷ ls) (ws ∷ words) h = (record { fields = words_fit (tokens_of l) ws h.0.spelled; kept = h.0.kept }, lines_fit ls words h.1)

-- The first word of a line, and the first line of a text.
use Rattle.std.proofs.Common.{◌≡◌, ℕ, ◌<◌, List, [], ◌∷◌, length, take, drop, sym, ap, ◌∙◌, arith, length-drop}
use Rattle.std.specs.List.{prefix_len}
use Rattle.asl_assembler.specs.Words.{is_separator, words_of, lines_of}
use Rattle.asl_assembler.specs.Reading.{is_word_byte, is_line_byte}
use Rattle.asl_assembler.proofs.Split.{first_line, first_word, past_gap}
use Rattle.asl_diagnose_text.specs.Position.{first_of}

word_of : (line ws : List ℕ) → drop (prefix_len is_separator line) line ≡ ws → take (prefix_len is_word_byte ws) ws ≡ first_of (words_of line)
word_of line [] e =
    sym (ap first_of (past_gap line ∙ ap words_of e))
word_of line (b ∷ bs) e =
    let some : 0 < length (drop (prefix_len is_separator line) line) = omega (arith, ap (λ (ws : List ℕ). length ws) e) in
    ap (λ (ws : List ℕ). take (prefix_len is_word_byte ws) ws) (sym e) ∙ sym (ap first_of (first_word line some))

pub word_is : (line ws word : List ℕ) → ws ≡ drop (prefix_len is_separator line) line → word ≡ take (prefix_len is_word_byte ws) ws → word ≡ first_of (words_of line)
word_is line ws word e f = f ∙ word_of line ws (sym e)

pub row_is : (text line rest after : List ℕ) → 0 < length text → line ≡ take (prefix_len is_line_byte text) text → rest ≡ drop (prefix_len is_line_byte text) text → after ≡ drop 1 rest → lines_of text ≡ line ∷ lines_of after
row_is text line rest after some l r b =
    first_line text some
    ∙ ap (λ (x : List ℕ). x ∷ lines_of (drop 1 (drop (prefix_len is_line_byte text) text))) (sym l)
    ∙ ap (λ (x : List ℕ). line ∷ lines_of x) (ap (drop 1) (sym r) ∙ sym b)

pub row_less : (text rest after : List ℕ) (n : ℕ) → 0 < length text → rest ≡ drop n text → after ≡ drop 1 rest → length after < length text
row_less text rest after n some r b =
    omega (arith, ap (λ (x : List ℕ). length x) r, ap (λ (x : List ℕ). length x) b, length-drop n text, length-drop 1 rest)

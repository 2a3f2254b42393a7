use Rattle.std.proofs.Common.{ℕ, ◌∙◌, ap, take, drop, arith}
use Rattle.std.proofs.lemmas.List.Sums.{prefix_len-le-length}
use Rattle.asl_assembler.specs.Words.{is_separator}
use Rattle.asl_assembler.specs.Reading.{is_word_byte}
use Rattle.asl_diagnose_text.proofs.Rowed.{word_is}
use Rattle.asl_diagnose_text.proofs.text_lines.first_word.Goals as goal

pub split_at-requires : goal.split_at-requires
split_at-requires c = omega (arith, prefix_len-le-length is_separator c.args.line.now)

pub split_at-requires-2 : goal.split_at-requires-2
split_at-requires-2 c = omega (arith, prefix_len-le-length is_word_byte c.split_at.result.1.now)

pub returns : goal.returns
returns c =
    word_is c.args.line.now c.split_at.result.1.now c.split_at-2.result.0.now (c.split_at.ensures.back ∙ ap (λ (n : ℕ). drop n c.args.line.now) c.gap_len.ensures) (c.split_at-2.ensures.front ∙ ap (λ (n : ℕ). take n c.split_at.result.1.now) c.word_len.ensures)

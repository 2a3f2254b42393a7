use Rattle.std.proofs.Common.{sym, ap, ◌∙◌}
use Rattle.asl_assembler.specs.Words.{words_of}
use Rattle.asl_assembler.specs.Reading.{meaning_of}
use Rattle.asl_assembler.proofs.Rows.{instr_said}
use Rattle.asl_assembler.proofs.body.first_instruction.Goals as goal

pub returns-clause-line : goal.returns-clause-line
returns-clause-line c = record {
  first = c.split_line.result.0.now;
  split = c.split_line.ensures.lines;
  said = ap meaning_of c.in_ok-word.ensures.words ∙ instr_said c.in_ok-word.word.now (words_of c.in_ok-word.rest.now) c.in_ok-find_keyword.field-0 c.in_ok-instr.instr (sym c.in_ok-find_keyword.ensures) (sym c.in_ok-instr.ensures);
}

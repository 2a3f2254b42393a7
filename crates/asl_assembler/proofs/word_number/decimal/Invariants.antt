use Rattle.std.proofs.Common.{◌≡◌, ◌<◌, ◌^◌, drop}
use Rattle.asl_assembler.specs.Reading.{decimal_after}
use Rattle.asl_assembler.proofs.word_number.decimal.Given as goal

abbrev pub invariant-loop-digit : goal.invariant-loop-digit
invariant-loop-digit l = record {
  value : decimal_after l.value (drop l.digit-index l.word) ≡ decimal_after 0 l.word;
  bound : l.value < 10 ^ l.digit-index;
}

use Rattle.std.proofs.Common.{take}
use Rattle.clap.specs.Walk.{texts}
use Rattle.asl_command_line.specs.Number.{AreNumbers}
use Rattle.asl_command_line.proofs.number_words.numbers.Given as goal

abbrev pub invariant-loop-word : goal.invariant-loop-word
invariant-loop-word l = AreNumbers (texts (take l.word-index l.words)) l.numbers.items

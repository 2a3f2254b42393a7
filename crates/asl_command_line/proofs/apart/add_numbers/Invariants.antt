use Rattle.std.proofs.Common.{map, string_bytes, take}
use Rattle.asl_command_line.specs.Apart.{AreAdded}
use Rattle.asl_command_line.proofs.apart.add_numbers.Given as goal

abbrev pub invariant-loop-word : goal.invariant-loop-word
invariant-loop-word l = AreAdded (map string_bytes (take l.word-index l.words)) l.fn.numbers.items l.numbers.items

use Rattle.std.proofs.Common.{string_bytes}
use Rattle.asl_map.specs.Text.{registers_text}
use Rattle.asl_map.proofs.Told.{Told}
use Rattle.asl_map.proofs.map_text.push_registers.Given as goal

abbrev pub invariant-loop-number : goal.invariant-loop-number
invariant-loop-number l = Told registers_text l.registers l.number (string_bytes l.initial.text) (string_bytes l.text)

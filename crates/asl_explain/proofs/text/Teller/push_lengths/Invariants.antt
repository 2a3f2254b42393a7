use Rattle.std.proofs.Common.{string_bytes}
use Rattle.asl_explain.specs.Telling.{given}
use Rattle.asl_explain.specs.TellingLists.{RowsSoFar}
use Rattle.asl_explain.proofs.text.Teller.push_lengths.Given as goal

abbrev pub invariant-loop-length : goal.invariant-loop-length
invariant-loop-length l = RowsSoFar (given l.self) l.number l.first l.length (string_bytes l.initial.text) (string_bytes l.text)

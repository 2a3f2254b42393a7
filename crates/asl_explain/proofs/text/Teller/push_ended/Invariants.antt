use Rattle.std.proofs.Common.{string_bytes}
use Rattle.asl_explain.specs.Told.{ended_lines}
use Rattle.asl_explain.specs.Telling.{given}
use Rattle.asl_explain.proofs.Piecing.{TellsFlat}
use Rattle.asl_explain.proofs.text.Teller.push_ended.Given as goal

abbrev pub invariant-loop-end : goal.invariant-loop-end
invariant-loop-end l = TellsFlat (ended_lines l.self.all (given l.self).facts l.function) l.ended l.end-index (string_bytes l.initial.text) (string_bytes l.text)

use Rattle.std.proofs.Common.{take}
use Rattle.asl_diagnose_text.specs.Position.{IsLineStart}
use Rattle.asl_diagnose_text.proofs.place.last_line.Given as goal

abbrev pub invariant-loop-i : goal.invariant-loop-i
invariant-loop-i l = IsLineStart (take l.i l.bytes) l.start

use Rattle.asl_debugger.proofs.Halts.{IsNoneFrom}
use Rattle.asl_debugger.proofs.debugger.Debugger.last_stop.Given as goal

abbrev pub invariant-loop-until : goal.invariant-loop-until
invariant-loop-until g l = IsNoneFrom l.self l.until

abbrev pub decreases-loop-until : goal.decreases-loop-until
decreases-loop-until g l = l.until

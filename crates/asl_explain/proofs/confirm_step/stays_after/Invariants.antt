use Rattle.asl_explain.specs.Analysed.{read}
use Rattle.asl_explain.specs.Known.{AreKnown}
use Rattle.asl_explain.proofs.confirm_step.stays_after.Given as goal

abbrev pub invariant-loop-next : goal.invariant-loop-next
invariant-loop-next l = AreKnown (read l.analysis) l.known

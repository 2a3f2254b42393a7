use Rattle.std.proofs.Common.{take}
use Rattle.asl_explain.specs.Analysed.{read, AreEndedOf}
use Rattle.asl_explain.proofs.ended.all_ended.Given as goal

abbrev pub invariant-loop-lock : goal.invariant-loop-lock
invariant-loop-lock l = AreEndedOf (read l.analysis) l.number (take l.lock-index l.locks) l.ended.items

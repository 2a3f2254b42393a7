use Rattle.asl_check.proofs.Reading.{CoveredTo}
use Rattle.asl_check.proofs.bare_reads.first_of_expr.Given as goal

abbrev pub invariant-loop-at : goal.invariant-loop-at
invariant-loop-at l = CoveredTo l.classes l.function l.list l.expr.base l.expr.path l.ops l.at

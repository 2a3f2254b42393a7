use Rattle.std.proofs.Common.{[], take}
use Rattle.asl_lock_expr.specs.Links.{IsOne}
use Rattle.asl_explain.specs.Analysed.{read, HasAdded}
use Rattle.asl_explain.specs.Endings.{EndsSomewhere}
use Rattle.asl_explain.proofs.ended.ended_at.Given as goal

abbrev pub invariant-loop-which : goal.invariant-loop-which
invariant-loop-which l = HasAdded (λ m. IsOne (take l.which l.all) m × EndsSomewhere (read l.analysis) l.at.number m) [] l.locks.items

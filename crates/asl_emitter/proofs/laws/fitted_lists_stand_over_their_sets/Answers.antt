use Rattle.asl_lock_expr.specs.Links.{IsOne}
use Rattle.asl_emitter.proofs.Covering.{fitted_covers}
use Rattle.asl_emitter.proofs.laws.fitted_lists_stand_over_their_sets.Goals as goal

pub returns : goal.returns
returns c k f most given list p a o h = fitted_covers k f most (IsOne given) list p a o h

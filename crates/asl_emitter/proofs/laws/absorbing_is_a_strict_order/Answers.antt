use Rattle.asl_lock_expr.specs.Links.{IsOne}
use Rattle.asl_emitter.proofs.Absorbing.{never_itself, absorbs_trans, kept_or_absorbed}
use Rattle.asl_emitter.proofs.laws.absorbing_is_a_strict_order.Goals as goal

pub returns-clause-irreflexive : goal.returns-clause-irreflexive
returns-clause-irreflexive c = never_itself

pub returns-clause-transitive : goal.returns-clause-transitive
returns-clause-transitive c = absorbs_trans

pub returns-clause-kept : goal.returns-clause-kept
returns-clause-kept c k f given list r a o = kept_or_absorbed k f (IsOne given) list r a o

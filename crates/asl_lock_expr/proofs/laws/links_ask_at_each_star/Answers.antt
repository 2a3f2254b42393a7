use Rattle.asl_lock_expr.proofs.Partings.{hit_is, through_is, prefix_is}
use Rattle.asl_lock_expr.proofs.laws.links_ask_at_each_star.Goals as goal

pub returns-clause-hits : goal.returns-clause-hits
returns-clause-hits c = hit_is

pub returns-clause-through : goal.returns-clause-through
returns-clause-through c = through_is

pub returns-clause-prefixes : goal.returns-clause-prefixes
returns-clause-prefixes c base ops effect l = prefix_is base ops l

use Rattle.std.proofs.Common.{sym, subst}
use Rattle.asl_lock_expr.specs.Links.{IsOne}
use Rattle.asl_emitter.proofs.Reducing.{one_at}
use Rattle.asl_check.proofs.covers.is_under.Goals as goal

pub returns-in-Some : goal.returns-in-Some
returns-in-Some c t = (c.in-Some.over.now, subst (IsOne c.args.list.now) (sym c.in-Some.ensures.lookup.1) (one_at c.args.list.now c.args.place c.in-Some.over.now c.in-Some.ensures.lookup.3.0), c.covers_lock.ensures.0 t)

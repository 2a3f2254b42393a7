use Rattle.std.proofs.Common.{◌≡◌, true, sym, ◌∙◌, subst}
use Rattle.asl_lock_expr.specs.Links.{IsOne}
use Rattle.asl_emitter.proofs.Reducing.{one_at}
use Rattle.asl_explain.proofs.links.is_among.Goals as goal

pub returns-then-are_same : goal.returns-then-are_same
returns-then-are_same c = λ (t : true ≡ true).
    subst (IsOne c.args.locks.now) (sym c.other-item.is ∙ c.are_same.ensures c.if-are_same.true)
    (one_at c.args.locks.now c.loop-other.other-index c.other-item.result c.loop-other-test.true)

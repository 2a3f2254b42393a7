use Rattle.std.proofs.Common.{rules, sym, subst, arith}
use Rattle.std.proofs.lemmas.Grind.{common_steps}
use Rattle.asl_lock_expr.specs.Links.{HasGrown}
use Rattle.asl_lock_expr.proofs.Ones.{grown_more, grown_twice}
use Rattle.asl_lock_expr.proofs.link.add_hits.Goals.{then-is_hit+in_ok-add_on, else-is_hit}
use Rattle.asl_lock_expr.proofs.link.add_hits.Goals as goal

pub returns-in_err-add_on-clause-err : goal.returns-in_err-add_on-clause-err
returns-in_err-add_on-clause-err c =
    let grown = grown_twice _ _ _ c.loop-i.invariant.1 c.in_err-add_on.ensures.err in
    search (rules, grown)

pub loop-i-preserved : goal.loop-i-preserved
loop-i-preserved c =
    let kept = c.loop-i.invariant.0 in
    let grown = c.loop-i.invariant.1 in (
      elim c.if-is_hit.branch [
        | then-is_hit+in_ok-add_on w ↦ grind (arith, common_steps, kept, w.in_ok-add_on.ensures.ok, w.into-is, w.if-is_hit.true)
        | else-is_hit w ↦ grind (arith, common_steps, kept, w.into-is, w.if-is_hit.false)
      ],
      elim c.if-is_hit.branch [
        | then-is_hit+in_ok-add_on w ↦ subst (λ into. HasGrown c.args.into.now.items into.items) (sym w.into-is) (grown_twice _ _ _ grown (grown_more _ _ _ w.in_ok-add_on.ensures.ok))
        | else-is_hit w ↦ subst (λ into. HasGrown c.args.into.now.items into.items) (sym w.into-is) grown
      ],
    )

use Rattle.std.proofs.Common.{◌≡◌, ◌+◌, true, IsTrue, drop, get_or, ap, sym, subst, ◌∙◌, arith}
use Rattle.std.proofs.lemmas.List.{drop_more}
use Rattle.asl_mode_lanes.specs.declared.mode.Mode.TheVariants.{NL}
use Rattle.asl_lock_forest.specs.declared.node.Node.TheVariants.{Root}
use Rattle.asl_lock_forest.specs.Holding.{asked}
use Rattle.asl_lock_queue.specs.Order.{is_rising}
use Rattle.asl_lock_queue.proofs.RisingLaws.{asked_past, rises_on}
use Rattle.asl_lock_queue.proofs.parents.seek.Goals as goal

pub loop-at-preserved : goal.loop-at-preserved
loop-at-preserved c =
    let request = c.args.request.now in
    let ask = get_or request c.loop-at.at (Root, NL) in
    let others = drop (c.loop-at.at + 1) request in
    let front = drop_more request c.loop-at.at (Root, NL) c.loop-at-test.true in
    let there = c.loop-at-test.true in
    record {
      within = omega (arith, there);
      same = λ n high.
          sym (asked_past ask others c.args.node n (sym c.is_below.ensures ∙ c.if-is_below.true) high)
          ∙ ap (λ l. asked l n) (sym front) ∙ c.loop-at.invariant.same n high;
      rising = λ rises. rises_on ask others (subst (λ l. is_rising l ≡ true) front (c.loop-at.invariant.rising rises));
    }

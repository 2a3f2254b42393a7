use Rattle.std.proofs.Common.{sym, ◌∙◌}
use Rattle.std.proofs.lemmas.Bool.{false_from_ne_true, both_ways}
use Rattle.asl_mode_lanes.specs.declared.mode.Mode.TheVariants.{NL}
use Rattle.asl_lock_forest.specs.declared.node.Node.TheVariants.{Root}
use Rattle.asl_lock_queue.proofs.TogetherLaws.{compared_left, compared_right, compared_both, clash_at}
use Rattle.asl_lock_queue.proofs.together.go_side_by_side.Goals as goal

pub loop-i-preserved-then-is_below : goal.loop-i-preserved-then-is_below
loop-i-preserved-then-is_below c =
    compared_left c.loop-i.invariant (Root, NL) c.loop-i-test.true c.if-j-b.true (sym c.is_below.ensures ∙ c.if-is_below.true)

pub loop-i-preserved-then-is_below-2 : goal.loop-i-preserved-then-is_below-2
loop-i-preserved-then-is_below-2 c =
    compared_right c.loop-i.invariant (Root, NL) c.loop-i-test.true c.if-j-b.true (sym c.is_below-else-is_below.ensures ∙ c.if-is_below-2.true)

pub loop-i-preserved : goal.loop-i-preserved
loop-i-preserved c =
    compared_both c.loop-i.invariant (Root, NL) c.loop-i-test.true c.if-j-b.true
    (sym c.is_below.ensures ∙ c.if-is_below.false) (sym c.is_below-else-is_below.ensures ∙ c.if-is_below-2.false)
    (c.compatible.ensures.0 c.if-compatible.true)

pub returns-else-compatible-clause-clash : goal.returns-else-compatible-clause-clash
returns-else-compatible-clause-clash c _ =
    clash_at c.args.a.now c.args.b.now c.loop-i.i c.loop-i.j (Root, NL) c.requires.a_rises c.requires.b_rises c.loop-i-test.true c.if-j-b.true
    (sym c.is_below.ensures ∙ c.if-is_below.false) (sym c.is_below-else-is_below.ensures ∙ c.if-is_below-2.false)
    (false_from_ne_true _ (λ goes. both_ways _ c.if-compatible.false (c.compatible.ensures.1 goes)))

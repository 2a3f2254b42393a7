use Rattle.asl_check.proofs.Reading.{covered_star}
use Rattle.asl_check.proofs.bare_reads.first_of_expr.Goals as goal

pub loop-at-preserved : goal.loop-at-preserved
loop-at-preserved c =
    covered_star c.args.classes.now c.args.function c.args.list.now c.args.expr.now.base c.args.expr.now.path c.as_slice-ops.result.now c.loop-at.at _ c.read_on-read.result
    c.loop-at-test.true (c.is_star.ensures.0 c.if-not-is_star.false) c.read_on-read.ensures (c.is_under_one.ensures.0 c.if-not-is_under_one.false) c.loop-at.invariant

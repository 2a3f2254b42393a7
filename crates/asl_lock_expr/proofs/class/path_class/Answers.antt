use Rattle.std.proofs.Common.{sym, ◌∙◌}
use Rattle.asl_lock_expr.proofs.Steps.{class_more}
use Rattle.asl_lock_expr.proofs.class.path_class.Goals as goal

pub loop-op-preserved : goal.loop-op-preserved
loop-op-preserved c =
    sym (class_more c.args.classes.now c.args.ops.now c.loop-op.op-index _ c.loop-op.class c.next_class-class.result c.loop-op-test.true c.next_class-class.ensures)
    ∙ c.loop-op.invariant

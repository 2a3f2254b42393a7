use Rattle.asl_lock_expr.specs.Order.{AreInOrder}
use Rattle.asl_probe_analysis.proofs.cells.put_in_order.Given as goal

abbrev pub invariant-loop-text : goal.invariant-loop-text
invariant-loop-text l = AreInOrder l.locks.items

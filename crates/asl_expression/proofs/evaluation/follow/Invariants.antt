use Rattle.std.proofs.Common.{◌≡◌, drop, Some}
use Rattle.asl_expression.specs.Expression.{path_cell}
use Rattle.asl_expression.proofs.evaluation.follow.Given as goal

abbrev pub invariant-loop-op : goal.invariant-loop-op
invariant-loop-op g l =
    path_cell (g.H.HeapView.seen l.heap) (drop l.op-index l.path) (Some l.cell) ≡ path_cell (g.H.HeapView.seen l.heap) l.path (Some l.fn.start)

use Rattle.std.specs.BinaryHeap.{heap_items}
use Rattle.asl_backward_flow.proofs.Taking.{left_all, left_popped, none_first}
use Rattle.asl_backward_flow.proofs.waiting.drop_same.Goals as goal

pub loop-point-init : goal.loop-point-init
loop-point-init c = left_all (heap_items c.args.others.now) c.args.point

pub loop-point-preserved : goal.loop-point-preserved
loop-point-preserved c =
    left_popped (heap_items c.args.others.now) (heap_items c.loop-point.others) (heap_items c.pop.new.self) c.args.point c.pop.result c.loop-point.invariant (c.is_first.ensures c.loop-point-test.true) c.pop.ensures.top c.pop.ensures.permutation
    (none_first c.pop.result _ _ c.pop.ensures.unchanged)

use Rattle.std.specs.BinaryHeap.{heap_items, heap_len}
use Rattle.asl_backward_flow.specs.Found.{AreLeft}
use Rattle.asl_backward_flow.proofs.waiting.drop_same.Given as goal

abbrev pub invariant-loop-point : goal.invariant-loop-point
invariant-loop-point l = AreLeft (heap_items l.fn.others) (heap_items l.others) l.fn.point

abbrev pub decreases-loop-point : goal.decreases-loop-point
decreases-loop-point l = heap_len l.others

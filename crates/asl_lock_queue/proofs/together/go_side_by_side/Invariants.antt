use Rattle.std.proofs.Common.{length, ◌-◌, ◌+◌}
use Rattle.asl_lock_queue.proofs.TogetherLaws.{IsCompared}
use Rattle.asl_lock_queue.proofs.together.go_side_by_side.Given as goal

abbrev pub invariant-loop-i : goal.invariant-loop-i
invariant-loop-i l = IsCompared l.a l.b l.i l.j

abbrev pub decreases-loop-i : goal.decreases-loop-i
decreases-loop-i l = (length l.a - l.i) + (length l.b - l.j)

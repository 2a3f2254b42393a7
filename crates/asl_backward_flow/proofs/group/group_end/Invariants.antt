use Rattle.std.proofs.Common.{◌<◌, ◌≤◌, ◌-◌}
use Rattle.asl_backward_flow.proofs.group.group_end.Given as goal

abbrev pub invariant-loop-end : goal.invariant-loop-end
invariant-loop-end l = (l.first < l.end) × (l.end ≤ l.count)

abbrev pub decreases-loop-end : goal.decreases-loop-end
decreases-loop-end l = l.count - l.end

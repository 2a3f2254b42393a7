use Rattle.std.proofs.Common.{◌≤◌, length}
use Rattle.asl_backward_flow.proofs.entered.AllEntered.find.Given as goal

abbrev pub invariant-loop-place : goal.invariant-loop-place
invariant-loop-place l = l.end ≤ length l.self.list.items

abbrev pub decreases-loop-place : goal.decreases-loop-place
decreases-loop-place l = l.end

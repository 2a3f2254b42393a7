use Rattle.std.proofs.Common.{◌≤◌, length}
use Rattle.asl_debugger.proofs.trail.last_mark.Given as goal

abbrev pub invariant-loop-left : goal.invariant-loop-left
invariant-loop-left l = l.left ≤ length l.marks

abbrev pub decreases-loop-left : goal.decreases-loop-left
decreases-loop-left l = l.left

-- what has flowed so far, and what waits
use Rattle.std.proofs.Common.{vec_len}
use Rattle.asl_points_to.proofs.Rounds.{IsSettling}
use Rattle.asl_points_to.proofs.settle.settle.Given as goal

abbrev pub invariant-loop-waiting : goal.invariant-loop-waiting
invariant-loop-waiting l = IsSettling l.initial.waiting.items l.initial.draft l.draft l.waiting.items

abbrev pub decreases-loop-waiting : goal.decreases-loop-waiting
decreases-loop-waiting l = vec_len l.waiting

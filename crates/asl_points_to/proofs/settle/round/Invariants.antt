-- what has flowed so far, and what waits
use Rattle.std.proofs.Common.{vec_len}
use Rattle.asl_points_to.proofs.Rounds.{IsRound}
use Rattle.asl_points_to.proofs.settle.round.Given as goal

abbrev pub invariant-loop-flow : goal.invariant-loop-flow
invariant-loop-flow l = IsRound l.initial.waiting.items l.initial.draft l.draft l.left.items l.waiting.items

abbrev pub decreases-loop-flow : goal.decreases-loop-flow
decreases-loop-flow l = vec_len l.waiting

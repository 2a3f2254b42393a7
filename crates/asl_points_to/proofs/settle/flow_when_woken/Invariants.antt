-- what has flowed so far
use Rattle.asl_points_to.proofs.Rounds.{IsAhead}
use Rattle.asl_points_to.proofs.settle.flow_when_woken.Given as goal

abbrev pub invariant-loop : goal.invariant-loop
invariant-loop l = IsAhead l.flows l.initial.draft l.draft

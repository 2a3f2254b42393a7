use Rattle.std.proofs.Common.{◌≡◌, replicate, []}
use Rattle.asl_backward_flow.proofs.region_needs.empty_sets.Given as goal

abbrev pub invariant-loop : goal.invariant-loop
invariant-loop l = l.sets.items ≡ replicate l.counter []

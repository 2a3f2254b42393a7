-- the arguments so far
use Rattle.std.proofs.Common.{◌≡◌, ◌++◌}
use Rattle.asl_points_to.specs.Flows.{argument_flows}
use Rattle.asl_points_to.proofs.value_flows.push_call.Given as goal

abbrev pub invariant-loop-n : goal.invariant-loop-n
invariant-loop-n l =
    l.flows.items ≡ l.initial.flows.items ++ argument_flows l.to.function l.first l.returned.function l.n

use Rattle.std.proofs.Common.{◌≤◌}
use Rattle.asl_runner_tests.proofs.runs.summary_of.Given as goal

abbrev pub invariant-loop-t : goal.invariant-loop-t
invariant-loop-t l = l.ended ≤ l.t

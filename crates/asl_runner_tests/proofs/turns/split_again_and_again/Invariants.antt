use Rattle.std.proofs.Common.{◌≡◌}
use Rattle.asl_runner_tests.proofs.turns.split_again_and_again.Given as goal

abbrev pub invariant-loop : goal.invariant-loop
invariant-loop l = l.seat.of ≡ l.turns

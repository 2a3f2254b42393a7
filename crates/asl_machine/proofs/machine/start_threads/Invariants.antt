use Rattle.std.proofs.Common.{◌≡◌}
use Rattle.asl_machine.specs.Run.{first_threads}
use Rattle.asl_machine.proofs.machine.start_threads.Given as goal

abbrev pub invariant-loop-t : goal.invariant-loop-t
invariant-loop-t l = l.threads.items ≡ first_threads l.code l.t

use Rattle.std.proofs.Common.{◌≡◌, drop}
use Rattle.asl_machine.specs.Request.{joined_all, all_asks, request_of}
use Rattle.asl_machine.proofs.request.gather.Given as goal

abbrev pub invariant-loop-lock : goal.invariant-loop-lock
invariant-loop-lock l = joined_all l.asks.items (all_asks l.heap l.regs (drop l.lock-index l.locks)) ≡ request_of l.heap l.regs l.locks

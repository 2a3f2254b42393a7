use Rattle.std.proofs.Common.{◌≡◌, drop}
use Rattle.asl_lock_queue.specs.Order.{rises_after, is_rising}
use Rattle.asl_lock_queue.proofs.order.is_rising.Given as goal

abbrev pub invariant-loop-ask : goal.invariant-loop-ask
invariant-loop-ask l = rises_after l.last (drop l.ask-index l.request) ≡ is_rising l.request

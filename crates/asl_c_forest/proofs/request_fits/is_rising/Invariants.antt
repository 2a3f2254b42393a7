use Rattle.std.proofs.Common.{◌≡◌, drop, map}
use Rattle.asl_lock_queue.specs.Asks.{ask_of}
use Rattle.asl_lock_queue.specs.Order.{rises_after, is_rising}
use Rattle.asl_c_forest.proofs.request_fits.is_rising.Given as goal

abbrev pub invariant-loop-ask : goal.invariant-loop-ask
invariant-loop-ask l = rises_after l.last (map ask_of (drop l.ask-index l.asks)) ≡ is_rising (map ask_of l.asks)

use Rattle.std.proofs.Common.{◌≡◌, drop, map}
use Rattle.asl_lock_forest.specs.Request.{asks_modes}
use Rattle.asl_lock_queue.specs.Asks.{ask_of}
use Rattle.asl_c_forest.proofs.request_fits.has_modes.Given as goal

abbrev pub invariant-loop-ask : goal.invariant-loop-ask
invariant-loop-ask l = asks_modes (map ask_of (drop l.ask-index l.asks)) ≡ asks_modes (map ask_of l.asks)

use Rattle.std.proofs.Common.{◌≡◌, drop}
use Rattle.asl_lock_queue.specs.Asks.{has_kinds}
use Rattle.asl_c_forest.proofs.request_fits.has_kinds.Given as goal

abbrev pub invariant-loop-ask : goal.invariant-loop-ask
invariant-loop-ask l = has_kinds (drop l.ask-index l.asks) ≡ has_kinds l.asks

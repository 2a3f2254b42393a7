use Rattle.std.proofs.Common.{◌≡◌, drop, map}
use Rattle.asl_lock_forest.specs.Request.{names}
use Rattle.asl_lock_queue.specs.Asks.{ask_of}
use Rattle.asl_c_forest.proofs.request_fits.names.Given as goal

abbrev pub invariant-loop-ask : goal.invariant-loop-ask
invariant-loop-ask l = names (map ask_of (drop l.ask-index l.asks)) l.node ≡ names (map ask_of l.asks) l.node

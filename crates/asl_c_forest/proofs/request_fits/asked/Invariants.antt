use Rattle.std.proofs.Common.{◌≡◌, drop, map}
use Rattle.asl_lock_forest.specs.Holding.{asked}
use Rattle.asl_lock_queue.specs.Asks.{ask_of}
use Rattle.asl_c_forest.proofs.request_fits.asked.Given as goal

abbrev pub invariant-loop-ask : goal.invariant-loop-ask
invariant-loop-ask l = asked (map ask_of (drop l.ask-index l.asks)) l.node ≡ asked (map ask_of l.asks) l.node

use Rattle.std.proofs.Common.{drop, map}
use Rattle.asl_lock_forest.specs.Holding.{CanGrant}
use Rattle.asl_lock_queue.specs.Asks.{ask_of}
use Rattle.asl_c_forest.proofs.fits.is_free.Given as goal

abbrev pub invariant-loop-ask : goal.invariant-loop-ask
invariant-loop-ask l = CanGrant l.forest.holding l.thread (map ask_of (drop l.ask-index l.asks)) → CanGrant l.forest.holding l.thread (map ask_of l.asks)

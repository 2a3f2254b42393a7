use Rattle.std.proofs.Common.{◌≡◌, drop, map}
use Rattle.asl_lock_forest.specs.Request.{names_once}
use Rattle.asl_lock_queue.specs.Asks.{ask_of}
use Rattle.asl_c_forest.proofs.request_fits.is_each_once.Given as goal

abbrev pub invariant-loop-i : goal.invariant-loop-i
invariant-loop-i l = names_once (map ask_of (drop l.i l.asks)) ≡ names_once (map ask_of l.asks)

use Rattle.std.proofs.Common.{◌≡◌, take, map}
use Rattle.asl_lock_queue.specs.Asks.{ask_of}
use Rattle.asl_c_forest.proofs.c_request.read.Given as goal

abbrev pub invariant-loop-ask : goal.invariant-loop-ask
invariant-loop-ask l = l.request.items ≡ map ask_of (take l.ask-index l.asks)

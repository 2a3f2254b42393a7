use Rattle.std.proofs.Common.{◌≡◌, ◌+◌, drop, map}
use Rattle.asl_lock_queue.specs.Asks.{ask_of}
use Rattle.asl_c_requests.specs.Placed.{place_of}
use Rattle.asl_c_requests.proofs.placing.place_for.Given as goal

abbrev pub invariant-loop-i : goal.invariant-loop-i
invariant-loop-i l = l.i + place_of (map ask_of (drop l.i l.asks)) l.at ≡ place_of (map ask_of l.asks) l.at

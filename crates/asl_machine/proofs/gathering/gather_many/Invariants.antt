-- what is asked so far, and the places of its nodes
use Rattle.std.proofs.Common.{◌≡◌, ◌≤◌, ◌*◌, drop, length}
use Rattle.asl_machine.specs.Request.{joined_all, all_asks, request_of}
use Rattle.asl_machine.specs.Places.{ArePlaces}
use Rattle.asl_machine.proofs.gathering.gather_many.Given as goal

abbrev pub invariant-loop-lock : goal.invariant-loop-lock
invariant-loop-lock l = record {
  joined : joined_all l.asks.items (all_asks l.heap l.regs (drop l.lock-index l.locks)) ≡ request_of l.heap l.regs l.locks;
  kept : ArePlaces l.places l.asks.items;
  few : length l.asks.items ≤ 3 * l.lock-index;
}

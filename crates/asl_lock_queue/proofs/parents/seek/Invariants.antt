use Rattle.std.proofs.Common.{◌≡◌, ◌≤◌, ◌-◌, false, IsTrue, length, drop}
use Rattle.asl_lock_forest.specs.declared.node.Node.{Node}
use Rattle.asl_lock_forest.specs.Holding.{asked}
use Rattle.asl_lock_queue.specs.Order.{is_below, is_rising}
use Rattle.asl_lock_queue.proofs.parents.seek.Given as goal

abbrev pub invariant-loop-at : goal.invariant-loop-at
invariant-loop-at l = record {
  within : l.at ≤ length l.request;
  same : (n : Node) → is_below n l.node ≡ false → asked (drop l.at l.request) n ≡ asked (drop l.from l.request) n;
  rising : IsTrue (is_rising (drop l.from l.request)) → IsTrue (is_rising (drop l.at l.request));
}

abbrev pub decreases-loop-at : goal.decreases-loop-at
decreases-loop-at l = length l.request - l.at

use Rattle.std.proofs.Common.{◌≡◌, ◌≤◌, All, IsTrue, length, drop}
use Rattle.std.specs.List.{list_all}
use Rattle.asl_lock_forest.specs.Node.{parent_of}
use Rattle.asl_lock_forest.specs.Request.{asks_parents, asks_parent_of}
use Rattle.asl_lock_queue.specs.Order.{is_rising}
use Rattle.asl_lock_queue.proofs.ParentLaws.{IsSought}
use Rattle.asl_lock_queue.proofs.parents.has_parents.Given as goal

abbrev pub invariant-loop-ask : goal.invariant-loop-ask
invariant-loop-ask l = record {
  within : l.at ≤ length l.request;
  rising : IsTrue (is_rising (drop l.at l.request));
  sought : All (λ ask. IsSought l.request (drop l.at l.request) ask.0) (drop l.ask-index l.request);
  tested : list_all (λ ask. asks_parent_of l.request (parent_of ask.0) ask.1) (drop l.ask-index l.request) ≡ asks_parents l.request;
}

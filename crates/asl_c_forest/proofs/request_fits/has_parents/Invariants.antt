use Rattle.std.proofs.Common.{◌≡◌, drop, map}
use Rattle.std.specs.Prelude.{IfSome}
use Rattle.asl_lock_forest.specs.declared.node.Node.TheVariants.{Class}
use Rattle.std.specs.List.{list_all}
use Rattle.asl_lock_forest.specs.Node.{parent_of}
use Rattle.asl_lock_forest.specs.Holding.{asked}
use Rattle.asl_lock_forest.specs.Request.{asks_parents, asks_parent_of}
use Rattle.asl_lock_queue.specs.Asks.{ask_of}
use Rattle.asl_c_forest.proofs.request_fits.has_parents.Given as goal

abbrev pub invariant-loop-ask : goal.invariant-loop-ask
invariant-loop-ask l = record {
  known : IfSome l.known (λ k. k.1 ≡ asked (map ask_of l.asks) (Class k.0));
  tested : list_all (λ ask. asks_parent_of (map ask_of l.asks) (parent_of ask.0) ask.1) (map ask_of (drop l.ask-index l.asks)) ≡ asks_parents (map ask_of l.asks);
}

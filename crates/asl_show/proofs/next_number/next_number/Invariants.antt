use Rattle.std.proofs.Common.{◌≡◌, ◌<◌, ◌≤◌, ℕ, Some, drop}
use Rattle.asl_lock_forest.specs.declared.node.Node.{Node}
use Rattle.asl_lock_forest.specs.Holding.{asked}
use Rattle.asl_show.specs.About.{number_in}
use Rattle.asl_show.proofs.next_number.next_number.Given as goal

abbrev pub invariant-loop-ask : goal.invariant-loop-ask
invariant-loop-ask l = record {
  low : l.from ≤ l.least;
  high : l.least ≤ l.end;
  same : (node : Node) (n : ℕ) → number_in l.numbers node ≡ Some n → l.from ≤ n → n < l.least → asked (drop l.ask-index l.nodes) node ≡ asked l.nodes node;
}

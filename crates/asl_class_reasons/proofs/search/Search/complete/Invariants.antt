-- it stays a search; each round but the last leaves fewer places unvisited
use Rattle.std.proofs.Common.{◌≡◌}
use Rattle.std.specs.Prelude.{sum_by}
use Rattle.asl_class_reasons.specs.Chains.{unseen, IsSearch}
use Rattle.asl_class_reasons.proofs.search.Search.complete.Given as goal

abbrev pub invariant-loop : goal.invariant-loop
invariant-loop l = record {
  search : IsSearch l.steps l.self;
  from : l.self.from ≡ l.initial.self.from;
}

abbrev pub decreases-loop : goal.decreases-loop
decreases-loop l = sum_by unseen l.self.at.items

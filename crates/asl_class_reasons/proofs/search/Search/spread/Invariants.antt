-- it stays a search
use Rattle.std.proofs.Common.{◌≡◌}
use Rattle.asl_class_reasons.specs.Chains.{IsSearch}
use Rattle.asl_class_reasons.proofs.search.Search.spread.Given as goal

abbrev pub invariant-loop-next : goal.invariant-loop-next
invariant-loop-next l = record {
  search : IsSearch l.steps l.self;
  from : l.self.from ≡ l.initial.self.from;
}

-- it stays a search
use Rattle.std.proofs.Common.{◌≡◌}
use Rattle.asl_class_reasons.specs.Chains.{IsSearch}
use Rattle.asl_class_reasons.proofs.search.Search.spread_from.Given as goal

abbrev pub invariant-loop : goal.invariant-loop
invariant-loop l = record {
  search : IsSearch l.steps l.self;
  from : l.self.from ≡ l.initial.self.from;
}

-- it stays a search, and what was followed leads to nothing more while nothing was visited
use Rattle.std.proofs.Common.{◌≡◌, ◌<◌, ◌≤◌, ℕ, true, false, Some, slice_get}
use Rattle.std.specs.Prelude.{sum_by}
use Rattle.asl_class_reasons.specs.declared.place.Step.{Step}
use Rattle.asl_class_reasons.specs.Chains.{unseen, IsSearch, IsEven}
use Rattle.asl_class_reasons.proofs.search.Search.follow_all.Given as goal

abbrev pub invariant-loop-index : goal.invariant-loop-index
invariant-loop-index l = record {
  search : IsSearch l.steps l.self;
  from : l.self.from ≡ l.initial.self.from;
  lower : sum_by unseen l.self.at.items ≤ sum_by unseen l.initial.self.at.items;
  less : l.more ≡ true → sum_by unseen l.self.at.items < sum_by unseen l.initial.self.at.items;
  even : l.more ≡ false → (n : ℕ) (s : Step) → n < l.index → slice_get l.steps n ≡ Some s → IsEven l.self s;
}

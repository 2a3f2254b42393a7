-- the links so far, last first, lead from the visit at hand to the last
use Rattle.std.proofs.Common.{◌≡◌, ◌<◌, List, Some, length, slice_get}
use Rattle.std.specs.Prelude.{reverse}
use Rattle.asl_class_reasons.specs.declared.place.Step.{Step}
use Rattle.asl_class_reasons.specs.declared.search.Visit.{Visit}
use Rattle.asl_class_reasons.specs.Reasons.{IsChain}
use Rattle.asl_class_reasons.specs.Chains.{IsSearch}
use Rattle.asl_class_reasons.proofs.search.Search.links.Given as goal

abbrev pub invariant-loop-at : goal.invariant-loop-at
invariant-loop-at l = record {
  low : l.at < length l.self.visits.items;
  chain : (steps : List Step) (u v : Visit) → IsSearch steps l.self → slice_get l.self.visits.items l.at ≡ Some u → slice_get l.self.visits.items l.fn.visit ≡ Some v → IsChain steps u.place (reverse l.links.items) v.place;
}

abbrev pub decreases-loop-at : goal.decreases-loop-at
decreases-loop-at l = l.at

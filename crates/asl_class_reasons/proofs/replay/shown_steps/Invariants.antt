-- the draft of the first so many steps, and what follows from fewer
use Rattle.std.proofs.Common.{◌≡◌, take}
use Rattle.asl_class_reasons.specs.Draft.{IsSized, IsFounded}
use Rattle.asl_class_reasons.specs.Following.{AreFollowing}
use Rattle.asl_class_reasons.proofs.replay.shown_steps.Given as goal

abbrev pub invariant-loop-index : goal.invariant-loop-index
invariant-loop-index l = record {
  sized : IsSized l.draft;
  founded : IsFounded l.lowering l.draft;
  members : l.draft.members ≡ l.members;
  functions : l.draft.functions ≡ l.functions;
  steps : l.draft.steps.items ≡ take l.index l.steps;
  shown : AreFollowing l.lowering l.steps l.items.items;
}

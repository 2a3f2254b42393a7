-- what is due so far
use Rattle.std.proofs.Common.{◌≡◌}
use Rattle.asl_class_reasons.specs.Draft.{IsSized, IsFounded}
use Rattle.asl_class_reasons.specs.Chains.{AreStepsThere}
use Rattle.asl_class_reasons.specs.Reasons.{AreReasonedBy}
use Rattle.asl_class_reasons.proofs.straight.due_steps.Given as goal

abbrev pub invariant-loop-one : goal.invariant-loop-one
invariant-loop-one l = record {
  sized : IsSized l.draft;
  founded : IsFounded l.lowering l.draft;
  same : l.draft ≡ l.initial.draft;
  there : AreStepsThere l.draft.members l.draft.functions l.steps.items;
  reasoned : AreReasonedBy l.lowering l.draft.steps.items l.steps.items;
}

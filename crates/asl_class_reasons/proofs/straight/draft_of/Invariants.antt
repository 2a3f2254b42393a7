-- the draft of the steps so far
use Rattle.std.proofs.Common.{◌≡◌, ◌+◌, length, take}
use Rattle.asl_lower.specs.Lowered.{Lowered}
use Rattle.asl_class_reasons.specs.Draft.{IsSized, IsFounded}
use Rattle.asl_class_reasons.specs.Reasons.{AreReasons}
use Rattle.asl_class_reasons.proofs.straight.draft_of.Given as goal

abbrev pub invariant-loop-step : goal.invariant-loop-step
invariant-loop-step l = record {
  sized : IsSized l.draft;
  members : l.draft.members ≡ l.members;
  functions : l.draft.functions ≡ l.functions;
  steps : l.draft.steps.items ≡ take l.step-index l.steps;
  founded : (p : Lowered) → l.members ≡ p.globals + p.sites → l.functions ≡ length p.functions → AreReasons p l.steps → IsFounded p l.draft;
}

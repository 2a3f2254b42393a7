-- what has been noted so far
use Rattle.std.proofs.Common.{◌≡◌, List, take}
use Rattle.asl_lower.specs.Lowered.{Lowered}
use Rattle.asl_class_reasons.specs.declared.place.Step.{Step}
use Rattle.asl_class_reasons.specs.Draft.{IsFounded, AreOf}
use Rattle.asl_class_reasons.specs.Following.{AreFollowing}
use Rattle.asl_class_reasons.proofs.replay.note_woken.Given as goal

abbrev pub invariant-loop : goal.invariant-loop
invariant-loop l = record {
  same : l.draft ≡ l.initial.draft;
  shown : (p : Lowered) (es : List Step) → IsFounded p l.initial.draft → AreOf p l.owed → l.initial.draft.steps.items ≡ take l.before es → AreFollowing p es l.initial.items.items → AreFollowing p es l.items.items;
}

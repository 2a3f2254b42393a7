-- what has been made so far
use Rattle.asl_lower.specs.Lowered.{Lowered}
use Rattle.asl_class_reasons.specs.Draft.{IsFounded, IsGrown, AreOf}
use Rattle.asl_class_reasons.proofs.waking.make_when_woken.Given as goal

abbrev pub invariant-loop : goal.invariant-loop
invariant-loop l = record {
  grown : IsGrown l.initial.draft l.draft;
  founded : (p : Lowered) → IsFounded p l.initial.draft → AreOf p l.owed → IsFounded p l.draft;
}

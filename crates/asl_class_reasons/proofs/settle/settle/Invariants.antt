-- what has been made so far; each round but the last lowers the sum of all labels
use Rattle.std.proofs.Common.{sum}
use Rattle.asl_lower.specs.Lowered.{Lowered}
use Rattle.asl_class_reasons.specs.Draft.{IsFounded, IsGrown, AreOf}
use Rattle.asl_class_reasons.proofs.settle.settle.Given as goal

abbrev pub invariant-loop-draft : goal.invariant-loop-draft
invariant-loop-draft l = record {
  grown : IsGrown l.initial.draft l.draft;
  founded : (p : Lowered) → IsFounded p l.initial.draft → AreOf p l.owed → IsFounded p l.draft;
}

abbrev pub decreases-loop-draft : goal.decreases-loop-draft
decreases-loop-draft l = sum l.draft.sets

-- what has been made so far, and what holds while nothing has joined
use Rattle.std.proofs.Common.{◌≡◌, ◌<◌, ℕ, true, false, Some, sum, slice_get}
use Rattle.asl_lower.specs.Lowered.{Lowered}
use Rattle.asl_class_reasons.specs.declared.flow.Owed.{Owed}
use Rattle.asl_class_reasons.specs.Draft.{IsFounded, IsGrown, AreOf, Holds, drafted}
use Rattle.asl_class_reasons.proofs.settle.make_all.Given as goal

abbrev pub invariant-loop-one : goal.invariant-loop-one
invariant-loop-one l = record {
  grown : IsGrown l.initial.draft l.draft;
  founded : (p : Lowered) → IsFounded p l.initial.draft → AreOf p l.owed → IsFounded p l.draft;
  lower : l.more ≡ true → sum l.draft.sets < sum l.initial.draft.sets;
  holds : (p : Lowered) → IsFounded p l.initial.draft → AreOf p l.owed → l.more ≡ false → (n : ℕ) (o : Owed) → n < l.one-index → slice_get l.owed n ≡ Some o → Holds (drafted p l.draft) o.flow;
}

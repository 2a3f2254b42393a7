-- what has been joined so far
use Rattle.asl_lower.specs.Lowered.{Lowered}
use Rattle.asl_class_reasons.specs.Draft.{IsFounded, IsGrown}
use Rattle.asl_class_reasons.proofs.settle.join_all_cells.Given as goal

abbrev pub invariant-loop-member : goal.invariant-loop-member
invariant-loop-member l = record {
  grown : IsGrown l.initial.draft l.draft;
  founded : (p : Lowered) → IsFounded p l.initial.draft → IsFounded p l.draft;
}

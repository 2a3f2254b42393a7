-- the draft stays settled
use Rattle.asl_class_reasons.specs.Draft.{IsSettled}
use Rattle.asl_class_reasons.proofs.reasons.reasons_of.Given as goal

abbrev pub invariant-loop-one : goal.invariant-loop-one
invariant-loop-one l = IsSettled l.lowering l.draft

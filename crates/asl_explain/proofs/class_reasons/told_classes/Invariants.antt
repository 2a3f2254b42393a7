use Rattle.asl_explain.specs.Telling.{AreToldBy}
use Rattle.asl_explain.proofs.class_reasons.told_classes.Given as goal

abbrev pub invariant-loop-class : goal.invariant-loop-class
invariant-loop-class l = AreToldBy l.reasoned l.all l.lists l.class l.told.items

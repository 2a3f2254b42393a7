use Rattle.asl_class_text.specs.Classes.{AreToldClasses}
use Rattle.asl_class_text.proofs.making.told_classes.Given as goal

abbrev pub invariant-loop-class : goal.invariant-loop-class
invariant-loop-class l = AreToldClasses l.facts.lowering l.facts.classes.items l.class l.reasons.steps l.all l.classes.items

use Rattle.asl_class_text.proofs.Paired.{classes_more}
use Rattle.asl_class_text.proofs.making.told_classes.Goals as goal

pub loop-class-preserved : goal.loop-class-preserved
loop-class-preserved c = classes_more _ _ _ _ _ _ _ _ c.in_ok-push.ensures.items c.in_ok-told_class.ensures c.loop-class.invariant

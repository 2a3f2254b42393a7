use Rattle.std.proofs.Common.{Option, ℕ, subst}
use Rattle.asl_explain.specs.ClassReasons.{IsToldIf}
use Rattle.asl_explain.proofs.ToldClasses.{told_more}
use Rattle.asl_explain.proofs.class_reasons.told_classes.Goals as goal

pub loop-class-preserved : goal.loop-class-preserved
loop-class-preserved c =
    told_more c.args.reasoned.now c.args.all c.args.lists.now c.loop-class.class c.loop-class.told.items c.push.new.self.items c.in_ok-one.one c.in_ok-push.ensures.items
    (subst (λ (o : Option ℕ). IsToldIf c.args.reasoned.now c.args.all c.loop-class.class o c.in_ok-one.one) c.first_section-first.ensures c.in_ok-one.ensures) c.loop-class.invariant

use Rattle.std.proofs.lemmas.Option.{slice_get_within}
use Rattle.asl_lock_expr.specs.ClassOf.{class_of}
use Rattle.asl_emitter.specs.Above.{classes_above, stronger_expr}
use Rattle.asl_emitter.proofs.Above.{of_both, of_second}
use Rattle.asl_emitter.proofs.absorb.has_expr_absorber.Goals as goal

pub returns-then-has_class_above : goal.returns-then-has_class_above
returns-then-has_class_above c =
    of_both c.args.given.now (classes_above (class_of c.args.classes.now c.args.function c.args.expr.now) c.args.effect) (stronger_expr c.args.expr.now c.args.effect)
    c.has_class_above.result c.has_class_above.ensures c.if-has_class_above.true

pub is_before_stronger-requires-clause-there : goal.is_before_stronger-requires-clause-there
is_before_stronger-requires-clause-there c = slice_get_within c.args.given.now c.args.at _ c.requires.at

pub returns : goal.returns
returns c =
    of_second c.args.given.now (classes_above (class_of c.args.classes.now c.args.function c.args.expr.now) c.args.effect) (stronger_expr c.args.expr.now c.args.effect)
    c.has_class_above.result c.is_before_stronger.result c.has_class_above.ensures c.if-has_class_above.false c.is_before_stronger.ensures

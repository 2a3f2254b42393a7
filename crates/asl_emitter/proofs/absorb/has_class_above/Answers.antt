use Rattle.std.proofs.Common.{◌↔◌, IsTrue, false, ℕ, Option, subst}
use Rattle.asl_emitter.specs.Above.{classes_above, HasOneOf}
use Rattle.asl_emitter.proofs.Above.{of_none, no_class_above}
use Rattle.asl_emitter.proofs.absorb.has_class_above.Goals as goal

pub returns-then-begins_with_expr : goal.returns-then-begins_with_expr
returns-then-begins_with_expr c = no_class_above c.args.given.now _ c.args.effect (c.begins_with_expr.ensures c.if-begins_with_expr.true)

pub returns-in-Some : goal.returns-in-Some
returns-in-Some c =
    subst (λ (o : Option ℕ). IsTrue c.has_class.result ↔ HasOneOf c.args.given.now (classes_above o c.args.effect)) c.in-Some.ensures c.has_class.ensures

pub returns-in-None : goal.returns-in-None
returns-in-None c =
    subst (λ (o : Option ℕ). IsTrue false ↔ HasOneOf c.args.given.now (classes_above o c.args.effect)) c.in-None.ensures (of_none c.args.given.now)

use Rattle.std.proofs.Common.{◌↔◌, IsTrue, ap, sym, subst, ◌∙◌, Some, false}
use Rattle.asl_code.specs.declared.lock.Lock.{Lock}
use Rattle.asl_emitter.specs.Above.{above, HasOneOf}
use Rattle.asl_emitter.proofs.Above.{of_none}
use Rattle.asl_emitter.proofs.absorb.has_absorber.Goals as goal

pub returns-in-Root : goal.returns-in-Root
returns-in-Root c = subst (λ (l : Lock). IsTrue false ↔ HasOneOf c.args.given.now (above c.args.classes.now c.args.function l)) (sym c.in-Root.is) (of_none c.args.given.now)

pub returns-in-Class : goal.returns-in-Class
returns-in-Class c = subst (λ (l : Lock). IsTrue c.has_stronger.result ↔ HasOneOf c.args.given.now (above c.args.classes.now c.args.function l)) (sym c.in-Class.is) c.has_stronger.ensures

pub has_expr_absorber-requires-clause-at : goal.has_expr_absorber-requires-clause-at
has_expr_absorber-requires-clause-at c = c.requires.at ∙ ap (λ (l : Lock). Some l) c.in-Expr.is

pub returns-in-Expr : goal.returns-in-Expr
returns-in-Expr c = subst (λ (l : Lock). IsTrue c.has_expr_absorber.result ↔ HasOneOf c.args.given.now (above c.args.classes.now c.args.function l)) (sym c.in-Expr.is) c.has_expr_absorber.ensures

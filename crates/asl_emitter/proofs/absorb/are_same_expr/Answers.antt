use Rattle.std.proofs.Common.{◌≡◌, true, sym, ◌∙◌, subst}
use Rattle.asl_code.specs.declared.lock.Expr.{Expr}
use Rattle.asl_code.specs.contracts.lock.ExprPartialEq.TheImpl.{ghosts}
use Rattle.asl_emitter.proofs.Same.{same_expr, itself_expr}
use Rattle.asl_emitter.proofs.absorb.are_same_expr.Goals as goal

pub returns : goal.returns
returns c = (
  λ t. same_expr _ _ (sym c.eq.ensures ∙ t),
  λ e. c.eq.ensures ∙ subst (λ (x : Expr). ghosts.eq c.args.expr.now x ≡ true) e (itself_expr c.args.expr.now),
)

use Rattle.std.proofs.Common.{◌≡◌, ◌↔◌, IsTrue, sym, subst}
use Rattle.asl_code.specs.declared.value.Effect.TheVariants.{Write}
use Rattle.asl_code.specs.declared.lock.Lock.{Lock}
use Rattle.asl_code.specs.declared.lock.Lock.TheVariants as lock
use Rattle.asl_emitter.proofs.absorb.may_write_on.Goals as goal

pub returns-in-Expr : goal.returns-in-Expr
returns-in-Expr c = subst (λ (l : Lock). IsTrue c.is_write_on.result ↔ (l ≡ lock.Expr c.args.expr.now Write)) (sym c.in-Expr.is) c.is_write_on.ensures

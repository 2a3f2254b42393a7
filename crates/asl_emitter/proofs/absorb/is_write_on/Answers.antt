use Rattle.std.proofs.Common.{◌≡◌, ◌↔◌, IsTrue, false, ap, sym, subst}
use Rattle.asl_code.specs.declared.value.Effect.{Effect}
use Rattle.asl_code.specs.declared.value.Effect.TheVariants.{Write}
use Rattle.asl_code.specs.declared.lock.Expr.{Expr}
use Rattle.asl_code.specs.declared.lock.Lock.TheVariants as lock
use Rattle.asl_emitter.proofs.absorb.is_write_on.Goals as goal

pub returns-in-Write : goal.returns-in-Write
returns-in-Write c =
    subst (λ (e : Effect). IsTrue c.are_same_expr.result ↔ (lock.Expr c.args.same.now e ≡ lock.Expr c.args.expr.now Write)) (sym c.in-Write.is)
    (λ t. ap (λ (e : Expr). lock.Expr e Write) (c.are_same_expr.ensures.0 t), λ e. c.are_same_expr.ensures.1 cc)

pub returns-in-Read : goal.returns-in-Read
returns-in-Read c =
    subst (λ (e : Effect). IsTrue false ↔ (lock.Expr c.args.same.now e ≡ lock.Expr c.args.expr.now Write)) (sym c.in-Read.is)
    (λ t. absurd cc, λ e. absurd cc)

use Rattle.std.proofs.Common.{◌≡◌, ◌↔◌, ◌+◌, ◌∙◌, IsTrue, false, Some, refl, ap, sym, subst, slice_get}
use Rattle.std.proofs.lemmas.Option.{slice_get-get_or}
use Rattle.asl_code.specs.declared.value.Effect.{Effect}
use Rattle.asl_code.specs.declared.value.Effect.TheVariants.{Write}
use Rattle.asl_code.specs.declared.lock.Lock.{Lock}
use Rattle.asl_code.specs.declared.lock.Lock.TheVariants as lock
use Rattle.asl_emitter.specs.Above.{stronger_expr, HasOneOf}
use Rattle.asl_emitter.proofs.Above.{of_one, of_none}
use Rattle.asl_emitter.proofs.Behind.{next_tells, next_none}
use Rattle.asl_emitter.proofs.absorb.is_before_stronger.Goals as goal

pub returns-in-Write : goal.returns-in-Write
returns-in-Write c =
    subst (λ (e : Effect). IsTrue false ↔ HasOneOf c.args.given.now (stronger_expr c.args.expr.now e)) (sym c.in-Write.is) (of_none c.args.given.now)

pub returns-in-None : goal.returns-in-None
returns-in-None c =
    subst (λ (e : Effect). IsTrue false ↔ HasOneOf c.args.given.now (stronger_expr c.args.expr.now e)) (sym c.in-Read.is)
    (of_one c.args.given.now (lock.Expr c.args.expr.now Write) false
    (next_none c.args.given.now c.args.at (c.args.at + 1) c.args.expr.now c.requires.order refl (c.requires.at ∙ ap (λ (e : Effect). Some (lock.Expr c.args.expr.now e)) c.in-Read.is) c.in-None.ensures.lookup.3))

pub returns-in-Some : goal.returns-in-Some
returns-in-Some c =
    let stands : slice_get c.args.given.now (c.args.at + 1) ≡ Some c.in-Some.next.now = slice_get-get_or c.args.given.now (c.args.at + 1) c.in-Some.next.now c.in-Some.ensures.lookup.3.0 ∙ ap (λ (l : Lock). Some l) (sym c.in-Some.ensures.lookup.1) in
    subst (λ (e : Effect). IsTrue c.may_write_on.result ↔ HasOneOf c.args.given.now (stronger_expr c.args.expr.now e)) (sym c.in-Read.is)
    (of_one c.args.given.now (lock.Expr c.args.expr.now Write) c.may_write_on.result
    (next_tells c.args.given.now c.args.at (c.args.at + 1) c.args.expr.now c.requires.order refl (c.requires.at ∙ ap (λ (e : Effect). Some (lock.Expr c.args.expr.now e)) c.in-Read.is) c.in-Some.next.now c.may_write_on.result stands c.may_write_on.ensures))

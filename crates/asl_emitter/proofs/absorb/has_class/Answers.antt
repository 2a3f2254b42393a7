use Rattle.std.proofs.Common.{◌↔◌, IsTrue, false, [], ◌∷◌, Some, sym, subst}
use Rattle.asl_code.specs.declared.value.Effect.{Effect}
use Rattle.asl_code.specs.declared.value.Effect.TheVariants.{Read, Write}
use Rattle.asl_code.specs.declared.lock.Lock.TheVariants as lock
use Rattle.asl_emitter.specs.Above.{classes_above, HasOneOf}
use Rattle.asl_emitter.proofs.Above.{of_one, class_there, of_second}
use Rattle.asl_emitter.proofs.absorb.has_class.Goals as goal

pub returns-then-is_one : goal.returns-then-is_one
returns-then-is_one c = class_there c.args.given.now c.args.class c.args.effect (c.is_one.ensures.0 c.if-is_one.true)

pub returns-in-Read : goal.returns-in-Read
returns-in-Read c =
    subst (λ (e : Effect). IsTrue c.is_one-in-Read.result ↔ HasOneOf c.args.given.now (classes_above (Some c.args.class) e)) (sym c.in-Read.is)
    (of_second c.args.given.now (lock.Class c.args.class Write ∷ []) (lock.Class c.args.class Read ∷ []) c.is_one.result c.is_one-in-Read.result
    (of_one c.args.given.now (lock.Class c.args.class Write) c.is_one.result c.is_one.ensures) c.if-is_one.false
    (of_one c.args.given.now (lock.Class c.args.class Read) c.is_one-in-Read.result c.is_one-in-Read.ensures))

pub returns-in-Write : goal.returns-in-Write
returns-in-Write c =
    subst (λ (e : Effect). IsTrue false ↔ HasOneOf c.args.given.now (classes_above (Some c.args.class) e)) (sym c.in-Write.is)
    (subst (λ b. IsTrue b ↔ HasOneOf c.args.given.now (lock.Class c.args.class Write ∷ [])) c.if-is_one.false (of_one c.args.given.now (lock.Class c.args.class Write) c.is_one.result c.is_one.ensures))

use Rattle.std.proofs.Common.{◌↔◌, IsTrue, false, sym, subst}
use Rattle.asl_code.specs.declared.value.Effect.{Effect}
use Rattle.asl_code.specs.declared.value.Effect.TheVariants.{Write}
use Rattle.asl_code.specs.declared.lock.Lock.TheVariants as lock
use Rattle.asl_emitter.specs.Above.{stronger_class, HasOneOf}
use Rattle.asl_emitter.proofs.Above.{of_one, of_none}
use Rattle.asl_emitter.proofs.absorb.has_stronger.Goals as goal

pub returns-in-Read : goal.returns-in-Read
returns-in-Read c =
    subst (λ (e : Effect). IsTrue c.is_one.result ↔ HasOneOf c.args.given.now (stronger_class c.args.class e)) (sym c.in-Read.is)
    (of_one c.args.given.now (lock.Class c.args.class Write) c.is_one.result c.is_one.ensures)

pub returns-in-Write : goal.returns-in-Write
returns-in-Write c = subst (λ (e : Effect). IsTrue false ↔ HasOneOf c.args.given.now (stronger_class c.args.class e)) (sym c.in-Write.is) (of_none c.args.given.now)

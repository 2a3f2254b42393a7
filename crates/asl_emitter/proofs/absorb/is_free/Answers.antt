use Rattle.asl_emitter.proofs.Above.{free_told}
use Rattle.asl_emitter.proofs.absorb.is_free.Goals as goal

pub returns : goal.returns
returns c = free_told c.args.classes.now c.args.function c.args.given.now c.args.lock.now c.has_absorber.result c.has_absorber.ensures

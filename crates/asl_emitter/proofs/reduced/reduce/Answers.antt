use Rattle.std.proofs.lemmas.Result.{IfOk-weaker}
use Rattle.asl_emitter.proofs.Above.{reduced_same}
use Rattle.asl_emitter.proofs.reduced.reduce.Goals as goal

pub returns : goal.returns
returns c = IfOk-weaker c.reduce_in_order.result _ _ (λ v r. reduced_same c.args.classes.now c.args.function c.in_ok-all.all.items c.args.given.now v.items c.in_ok-all.ensures.locks r) c.reduce_in_order.ensures

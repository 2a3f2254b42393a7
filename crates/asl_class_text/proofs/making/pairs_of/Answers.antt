use Rattle.std.proofs.Common.{refl}
use Rattle.asl_class_text.proofs.Paired.{order_at, joined_at, others_more}
use Rattle.asl_class_text.proofs.making.pairs_of.Goals as goal

pub pair_of-requires-clause-order : goal.pair_of-requires-clause-order
pair_of-requires-clause-order c = order_at c.args.reasons.now.steps c.args.first c.args.others.now c.loop-second.second-index _ _ c.requires.joined c.loop-second-test.true refl

pub pair_of-requires-clause-joined : goal.pair_of-requires-clause-joined
pair_of-requires-clause-joined c = joined_at c.args.reasons.now.steps c.args.first c.args.others.now c.loop-second.second-index _ _ c.requires.joined c.loop-second-test.true refl

pub loop-second-preserved : goal.loop-second-preserved
loop-second-preserved c = others_more _ _ _ _ _ _ _ _ _ _ c.loop-second-test.true refl c.in_ok-push.ensures.items c.in_ok-pair.ensures c.loop-second.invariant

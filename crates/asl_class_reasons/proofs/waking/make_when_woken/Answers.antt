use Rattle.asl_class_reasons.proofs.Labels.{grown_on}
use Rattle.asl_class_reasons.proofs.waking.make_when_woken.Goals as goal

pub loop-preserved : goal.loop-preserved
loop-preserved c = record {
  grown = grown_on c.args.draft.now c.loop.draft c.look_at.new.draft c.loop.invariant.grown c.in_ok-look_at.ensures.grown;
  founded = λ p f a. c.in_ok-look_at.ensures.founded p (c.loop.invariant.founded p f a) a;
}

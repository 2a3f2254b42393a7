use Rattle.asl_syntax.specs.Mentions.{UsesLocal}
use Rattle.asl_syntax.specs.MentionView.{mentions_of}
use Rattle.asl_syntax.proofs.Listed.{one_more}
use Rattle.asl_syntax.proofs.mentions.push_locals.Goals as goal

pub loop-name-preserved : goal.loop-name-preserved
loop-name-preserved c =
    one_more UsesLocal c.args.names.now c.loop-name.name-index c.name-item.result (mentions_of c.loop-name.out.items) (mentions_of c.push.new.out.items) _ c.loop-name-test.true c.name-item.is c.in_ok-push.ensures c.loop-name.invariant

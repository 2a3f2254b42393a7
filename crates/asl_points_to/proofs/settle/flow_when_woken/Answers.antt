use Rattle.asl_points_to.proofs.Rounds.{ahead_begins, ahead_there, ahead_goes}
use Rattle.asl_points_to.proofs.settle.flow_when_woken.Goals as goal

pub loop-init : goal.loop-init
loop-init c = ahead_begins c.args.flows.now c.args.draft.now c.requires.draft

pub look_at-requires-clause-there : goal.look_at-requires-clause-there
look_at-requires-clause-there c = ahead_there c.args.flows.now c.args.draft.now c.loop.draft c.in-Some.next.flow c.loop.invariant c.in-Some.ensures c.requires.there

pub loop-preserved : goal.loop-preserved
loop-preserved c =
    let l = c.look_at.ensures in
    ahead_goes c.args.flows.now c.args.draft.now c.loop.draft c.look_at.new.draft c.in-Some.next.flow c.loop.invariant c.in-Some.ensures l.draft l.keeps l.forced

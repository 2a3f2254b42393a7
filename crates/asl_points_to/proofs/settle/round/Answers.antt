use Rattle.std.proofs.Common.{List, sym, subst}
use Rattle.asl_points_to.specs.declared.value_flow.Flow.{Flow}
use Rattle.asl_points_to.proofs.Rounds.{IsRound, last_there, round_flows, round_leaves}
use Rattle.asl_points_to.proofs.settle.round.Goals as goal

pub flow-requires-clause-there : goal.flow-requires-clause-there
flow-requires-clause-there c =
    last_there c.args.flows.items c.args.draft.now c.loop-flow.draft c.loop-flow.left.items c.pop.new.self.items c.loop-flow.waiting.items c.in-Some.flow c.in-Some.ensures.items c.loop-flow.invariant c.requires.there

pub loop-flow-preserved-in-Continue-branch-2 : goal.loop-flow-preserved-in-Continue-branch-2
loop-flow-preserved-in-Continue-branch-2 c =
    let P : List Flow → Type 0 = λ left. IsRound c.args.flows.items c.args.draft.now c.flow.new.self left c.pop.new.self.items in
    subst P (sym c.in_ok-push.ensures.items)
    (round_leaves c.args.flows.items c.args.draft.now c.loop-flow.draft c.flow.new.self c.loop-flow.left.items c.pop.new.self.items c.loop-flow.waiting.items c.in-Some.flow c.in-Some.ensures.items c.loop-flow.invariant (c.flow.ensures.same c.if-not-flow.true) (c.flow.ensures.idle c.if-not-flow.true))

pub loop-flow-preserved : goal.loop-flow-preserved
loop-flow-preserved c =
    round_flows c.args.flows.items c.args.draft.now c.loop-flow.draft c.flow.new.self c.loop-flow.left.items c.pop.new.self.items c.loop-flow.waiting.items c.in-Some.flow c.in-Some.ensures.items c.loop-flow.invariant c.flow.ensures.draft c.flow.ensures.keeps (c.flow.ensures.flowed c.if-not-flow.false) c.flow.ensures.forced

use Rattle.std.proofs.Common.{◌*◌, arith, refl}
use Rattle.asl_lane_sets.proofs.Blocks.{none_added, some_added, within_all}
use Rattle.asl_lane_sets.proofs.lanes.are_within.Goals as goal

pub returns-then-differ-clause-within : goal.returns-then-differ-clause-within
returns-then-differ-clause-within c =
    let d = c.differ.ensures.0 c.if-differ.true in
    let lt = c.loop-block-test.true in
    let long = c.requires.same_length in
    (λ e. absurd cc, λ all. absurd (some_added c.args.high.now c.args.low.now c.joined.result (c.loop-block.block * 4) (omega (arith, lt, long)) (omega (arith, lt, long)) c.joined.ensures d all))

pub loop-block-preserved : goal.loop-block-preserved
loop-block-preserved c =
    let lt = c.loop-block-test.true in
    let long = c.requires.same_length in
    none_added c.args.high.now c.args.low.now c.joined.result c.loop-block.block (c.loop-block.block * 4) refl (omega (arith, lt, long)) (omega (arith, lt, long)) c.joined.ensures
    (λ d. let told = c.differ.ensures.1 d in let isnt = c.if-differ.false in cc) c.loop-block.invariant

pub returns-clause-within : goal.returns-clause-within
returns-clause-within c =
    let end = c.loop-block-test.false in
    (λ e. within_all c.args.high.now c.args.low.now c.loop-block.block c.requires.same_length c.requires.blocks (omega (arith, end)) c.loop-block.invariant, λ all. refl)

pub returns-then-differ-clause-lanes : goal.returns-then-differ-clause-lanes
returns-then-differ-clause-lanes c = (λ k. (c.type_inv.low k).fits, λ k. (c.type_inv.high k).fits)

pub returns-clause-lanes : goal.returns-clause-lanes
returns-clause-lanes c = (λ k. (c.type_inv.low k).fits, λ k. (c.type_inv.high k).fits)

use Rattle.std.proofs.Common.{◌*◌, ◌∙◌, refl, sym, arith}
use Rattle.asl_lane_sets.proofs.Blocks.{begin, begin_same, more, grew_now, grew_before, joined_all}
use Rattle.asl_lane_sets.proofs.lanes.merge_lanes.Goals as goal
use Rattle.asl_lane_sets.proofs.lanes.merge_lanes.Goals.{then-merge_block, else-merge_block}

pub loop-block-init : goal.loop-block-init
loop-block-init c = record { joined = begin c.args.into.now c.args.from.now; lanes = λ k. (c.type_inv.into k).fits; grew = begin_same c.args.into.now }

pub loop-block-preserved : goal.loop-block-preserved
loop-block-preserved c = record {
  joined = more c.args.into.now c.args.from.now c.loop-block.into c.merge_block.new.into c.loop-block.block (c.loop-block.block * 4) refl c.loop-block.invariant.joined c.merge_block.ensures.joined;
  lanes = c.loop-block.invariant.lanes;
  grew = elim c.if-merge_block.branch [
    | then-merge_block w ↦
        let d = grew_now c.args.into.now c.args.from.now c.loop-block.into c.merge_block.new.into c.loop-block.block (c.loop-block.block * 4) refl c.loop-block.invariant.joined c.merge_block.ensures.joined
        (c.merge_block.ensures.grew.0 w.if-merge_block.true) in
        (λ e. d, λ e. w.grew-is)
    | else-merge_block w ↦
        let same = grew_before c.args.into.now c.loop-block.into c.merge_block.new.into (λ d. let told = c.merge_block.ensures.grew.1 d in let isnt = w.if-merge_block.false in cc) in
        (λ e. same.0 (c.loop-block.invariant.grew.0 (sym w.grew-is ∙ e)), λ d. w.grew-is ∙ c.loop-block.invariant.grew.1 (same.1 d))
  ];
}

pub returns-clause-joined : goal.returns-clause-joined
returns-clause-joined c = let end = c.loop-block-test.false in joined_all _ _ _ c.loop-block.block c.requires.no_longer c.requires.blocks (omega (arith, end)) c.loop-block.invariant.joined

pub returns-clause-grew : goal.returns-clause-grew
returns-clause-grew c = c.loop-block.invariant.grew

pub returns-clause-lanes : goal.returns-clause-lanes
returns-clause-lanes c = (c.loop-block.invariant.lanes, λ k. (c.type_inv.from k).fits)

use Rattle.asl_lane_sets.proofs.ComparedLanes.{joined_at, differ_at}
use Rattle.asl_lane_sets.proofs.lanes.merge_block.Goals as goal

pub returns-clause-joined : goal.returns-clause-joined
returns-clause-joined c = joined_at c.args.at c.args.into.now c.args.from.now c.joined-after.result c.requires.into_long c.requires.from_long c.joined-after.ensures

pub returns-clause-grew : goal.returns-clause-grew
returns-clause-grew c =
    let d = differ_at c.args.at c.args.into.now c.args.from.now c.joined-after.result c.requires.into_long c.requires.from_long c.joined-after.ensures in
    (λ t. d.0 (c.differ.ensures.0 t), λ e. c.differ.ensures.1 (d.1 e))

use Rattle.std.proofs.Common.{◌∙◌}
use Rattle.asl_lane_sets.proofs.Parts.{cleared_now}
use Rattle.asl_lane_sets.proofs.lane_vec.LaneVec.clear.Goals as goal

pub returns : goal.returns
returns c =
    cleared_now c.args.self.now c.args.other.now c.self.inside.first c.other.inside.first c.clear_lanes.new.lanes c.self.inside.more.items c.other.inside.more.items
    c.deref_mut.result.now c.deref.result.now c.clear_lanes-2.new.lanes c.self.inside.more.len c.self.invariant.four c.other.invariant.four c.self.view_is c.other.view_is
    c.deref_mut.ensures.value c.deref.ensures.value (c.clear_lanes-2.ensures.0 ∙ c.deref_mut.ensures.len) c.clear_lanes.ensures c.clear_lanes-2.ensures

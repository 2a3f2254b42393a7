use Rattle.std.proofs.Common.{sym, ◌∙◌}
use Rattle.asl_lane_sets.proofs.ComparedLanes.{joined_lanes}
use Rattle.asl_lane_sets.proofs.lanes.joined.Goals as goal

pub returns : goal.returns
returns c = joined_lanes c.args.a c.args.b (c.fits-a.0 ∙ sym c.fits-b.0)

use Rattle.asl_lane_sets.proofs.ComparedLanes.{differ_tells}
use Rattle.asl_lane_sets.proofs.lanes.differ.Goals as goal

pub returns : goal.returns
returns c = differ_tells c.args.a c.args.b c.fits-a.0 c.fits-b.0

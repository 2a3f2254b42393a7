use Rattle.asl_lane_sets.proofs.CommonNumbers.{some_bit}
use Rattle.asl_lane_sets.proofs.bits.has_one.Goals as goal

pub returns-clause-one : goal.returns-clause-one
returns-clause-one c e = some_bit c.args.lane c.ranges.lane.fits c.if-lane-eq0.false

use Rattle.std.proofs.Common.{arith}
use Rattle.asl_lane_sets.proofs.Members.{none_shifted, one_shifted, zero_shifted}
use Rattle.asl_lane_sets.proofs.bits.next_one.Goals as goal

pub returns-then-rest-eq0-clause-none : goal.returns-then-rest-eq0-clause-none
returns-then-rest-eq0-clause-none c k le lt = zero_shifted c.args.lane c.args.from k c.if-rest-eq0.true le

pub returns-clause-high : goal.returns-clause-high
returns-clause-high c = (one_shifted c.args.lane c.args.from c.ranges.lane.fits (omega (arith, c.requires, c.if-from-eq-LANE.false)) c.if-rest-eq0.false).0

pub returns-clause-none : goal.returns-clause-none
returns-clause-none c k le lt = none_shifted c.args.lane c.args.from c.ranges.lane.fits c.if-rest-eq0.false k le lt

pub returns-clause-one : goal.returns-clause-one
returns-clause-one c lt = (one_shifted c.args.lane c.args.from c.ranges.lane.fits (omega (arith, c.requires, c.if-from-eq-LANE.false)) c.if-rest-eq0.false).1 lt

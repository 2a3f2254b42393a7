use Rattle.std.proofs.Common.{length, ap, arith, length-append}
use Rattle.asl_lane_sets.proofs.lane_vec.LaneVec.len.Goals as goal

pub returns : goal.returns
returns c =
    let count = ap length c.self.view_is in
    let four = c.self.invariant.four in
    omega (arith, count, four, c.len.ensures, length-append c.self.inside.first c.self.inside.more.items, c.self.inside.more.ok.0)

use Rattle.std.proofs.Common.{◌≡◌, length, ap, arith}
use Rattle.asl_lane_sets.proofs.Numbers.{length_told}
use Rattle.asl_lane_sets.proofs.CombinedNumbers.{within_told_by}
use Rattle.asl_lane_sets.proofs.bits.Bits.within.Goals as goal

pub is_within-requires : goal.is_within-requires
is_within-requires c =
    let one = c.self.invariant.count in
    let two = c.other.invariant.count in
    let mine = ap length c.self.view_is in
    let theirs = ap length c.other.view_is in
    omega (arith, one, two, mine, theirs, c.requires, length_told c.self.inside.len c.self.inside.lanes, length_told c.other.inside.len c.other.inside.lanes)

pub returns : goal.returns
returns c =
    let mine = ap length c.self.view_is in
    let theirs = ap length c.other.view_is in
    let same : c.self.inside.len ≡ c.other.inside.len = omega (arith, mine, theirs, c.requires, length_told c.self.inside.len c.self.inside.lanes, length_told c.other.inside.len c.other.inside.lanes) in
    within_told_by c.self.inside.len c.other.inside.len same c.self.inside.lanes c.other.inside.lanes c.args.self.now c.args.other.now
    c.self.invariant c.other.invariant c.self.view_is c.other.view_is c.is_within.ensures.lanes.0 c.is_within.ensures.lanes.1 c.is_within.result c.is_within.ensures.within

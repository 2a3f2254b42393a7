use Rattle.std.proofs.Common.{◌≤◌, length, ap, arith}
use Rattle.asl_lane_sets.proofs.Numbers.{length_told}
use Rattle.asl_lane_sets.proofs.CombinedNumbers.{merged_packed, merged_in, merged_grew}
use Rattle.asl_lane_sets.proofs.bits.Bits.add_all.Goals as goal

pub merge-requires : goal.merge-requires
merge-requires c =
    let one = c.self.invariant.count in
    let two = c.other.invariant.count in
    let mine = ap length c.self.view_is in
    let theirs = ap length c.other.view_is in
    omega (arith, one, two, mine, theirs, c.requires, length_told c.self.inside.len c.self.inside.lanes, length_told c.other.inside.len c.other.inside.lanes)

pub invariant_of-self : goal.invariant_of-self
invariant_of-self c =
    let mine = ap length c.self.view_is in
    let theirs = ap length c.other.view_is in
    let le : c.other.inside.len ≤ c.self.inside.len = omega (arith, mine, theirs, c.requires, length_told c.self.inside.len c.self.inside.lanes, length_told c.other.inside.len c.other.inside.lanes) in
    merged_packed c.self.inside.len c.other.inside.len le c.self.inside.lanes c.other.inside.lanes c.merge.new.self c.self.invariant c.other.invariant c.merge.ensures.joined

pub returns-clause-numbers : goal.returns-clause-numbers
returns-clause-numbers c k =
    let mine = ap length c.self.view_is in
    let theirs = ap length c.other.view_is in
    let le : c.other.inside.len ≤ c.self.inside.len = omega (arith, mine, theirs, c.requires, length_told c.self.inside.len c.self.inside.lanes, length_told c.other.inside.len c.other.inside.lanes) in
    merged_in c.self.inside.len c.other.inside.len le c.self.inside.lanes c.other.inside.lanes c.merge.new.self c.args.self.now c.args.other.now
    c.self.invariant c.other.invariant c.merge.ensures.joined c.self.view_is c.other.view_is k

pub returns-clause-grew : goal.returns-clause-grew
returns-clause-grew c =
    let mine = ap length c.self.view_is in
    let theirs = ap length c.other.view_is in
    let le : c.other.inside.len ≤ c.self.inside.len = omega (arith, mine, theirs, c.requires, length_told c.self.inside.len c.self.inside.lanes, length_told c.other.inside.len c.other.inside.lanes) in
    merged_grew c.self.inside.len c.other.inside.len le c.self.inside.lanes c.other.inside.lanes c.merge.new.self c.args.self.now c.args.other.now
    c.self.invariant c.other.invariant c.merge.ensures.joined c.self.view_is c.other.view_is
    c.merge.ensures.lanes.0 c.merge.ensures.lanes.1 c.merge.result c.merge.ensures.grew

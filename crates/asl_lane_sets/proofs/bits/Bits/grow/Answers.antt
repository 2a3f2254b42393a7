use Rattle.std.proofs.Common.{◌≤◌, ◌+◌, length, ap, arith}
use Rattle.asl_lane_sets.proofs.Numbers.{length_told, packed_longer, in_longer}
use Rattle.asl_lane_sets.proofs.bits.Bits.grow.Goals as goal

pub grow-requires-clause-long : goal.grow-requires-clause-long
grow-requires-clause-long c =
    let mine = ap length c.self.view_is in
    let count = c.self.invariant.count in
    omega (arith, mine, count, c.requires, c.lanes_after_first.ensures, length_told c.self.inside.len c.self.inside.lanes)

pub grow-requires-clause-blocks : goal.grow-requires-clause-blocks
grow-requires-clause-blocks c = omega (arith, c.lanes_after_first.ensures)

pub invariant_of-self-2 : goal.invariant_of-self-2
invariant_of-self-2 c =
    let mine = ap length c.self.view_is in
    let le : c.self.inside.len ≤ c.args.len = omega (arith, mine, c.requires, length_told c.self.inside.len c.self.inside.lanes) in
    packed_longer c.self.inside.len c.args.len c.self.inside.lanes c.grow.new.self (4 + c.lanes_after_first.result) c.self.invariant le (omega (arith, c.lanes_after_first.ensures))
    c.in_ok-grow.ensures.ok c.ranges.len.fits

pub returns-clause-length : goal.returns-clause-length
returns-clause-length c = length_told c.args.len c.grow.new.self

pub returns-clause-numbers : goal.returns-clause-numbers
returns-clause-numbers c k =
    let mine = ap length c.self.view_is in
    let le : c.self.inside.len ≤ c.args.len = omega (arith, mine, c.requires, length_told c.self.inside.len c.self.inside.lanes) in
    in_longer c.self.inside.len c.args.len c.self.inside.lanes c.grow.new.self (4 + c.lanes_after_first.result) c.self.invariant le (omega (arith, c.lanes_after_first.ensures))
    c.in_ok-grow.ensures.ok (invariant_of-self-2 c) _ c.self.view_is k

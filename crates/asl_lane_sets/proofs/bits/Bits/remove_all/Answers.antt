use Rattle.asl_lane_sets.proofs.CombinedNumbers.{packed_cleared, removed_in}
use Rattle.asl_lane_sets.proofs.bits.Bits.remove_all.Goals as goal

pub invariant_of-self : goal.invariant_of-self
invariant_of-self c = packed_cleared c.self.inside.lanes c.other.inside.lanes c.clear.new.self c.clear.ensures c.self.inside.len c.self.invariant

pub returns-clause-numbers : goal.returns-clause-numbers
returns-clause-numbers c k =
    removed_in c.self.inside.len c.other.inside.len c.self.inside.lanes c.other.inside.lanes c.clear.new.self c.args.self.now c.args.other.now
    c.self.invariant c.other.invariant c.clear.ensures c.self.view_is c.other.view_is k

use Rattle.std.proofs.Common.{◌≡◌, ◌≤◌, ◌<◌, ◌-◌, ◌++◌, true}
use Rattle.asl_lane_sets.specs.Packed.{has_bit, ones}
use Rattle.asl_lane_sets.proofs.bits.add_members.Given as goal

-- the numbers of the bits below are added, and the bit is 1
abbrev pub invariant-loop-bit : goal.invariant-loop-bit
invariant-loop-bit l = record {
  added : l.members.items ≡ l.initial.members.items ++ ones l.lane l.first l.bit;
  most : l.bit ≤ 64;
  one : l.bit < 64 → has_bit l.lane l.bit ≡ true;
}

abbrev pub decreases-loop-bit : goal.decreases-loop-bit
decreases-loop-bit l = 64 - l.bit

use Rattle.std.proofs.Common.{◌≡◌, ◌*◌}
use Rattle.asl_lane_sets.proofs.Members.{first_ones}
use Rattle.asl_lane_sets.proofs.bits.Bits.members.Given as goal

-- the numbers of the lanes so far are listed
abbrev pub invariant-loop-place : goal.invariant-loop-place
invariant-loop-place l = l.members.items ≡ first_ones l.self-inside.lanes (64 * l.place)

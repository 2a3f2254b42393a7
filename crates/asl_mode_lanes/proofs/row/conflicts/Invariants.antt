use Rattle.std.proofs.Common.{◌≡◌, ◌*◌, take, map}
use Rattle.std.specs.Simd.Lanes.{mask_l}
use Rattle.asl_mode_lanes.specs.Clash.{clashes}
use Rattle.asl_mode_lanes.proofs.row.conflicts.Given as goal

-- the mask has the clashing codes before those that are still to be read, and no other bit
abbrev pub invariant-loop-k : goal.invariant-loop-k
invariant-loop-k l = l.mask ≡ mask_l (map (clashes l.bits) (take (l.k * 16) l.row))

abbrev pub invariant-loop-t : goal.invariant-loop-t
invariant-loop-t l = l.mask ≡ mask_l (map (clashes l.bits) (take l.t l.row))

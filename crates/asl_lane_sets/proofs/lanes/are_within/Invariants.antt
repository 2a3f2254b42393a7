use Rattle.std.proofs.Common.{◌≡◌, ◌*◌, ◌<◌, ℕ, slice_index, bit_or}
use Rattle.asl_lane_sets.proofs.lanes.are_within.Given as goal

-- the lanes of the blocks so far add nothing
abbrev pub invariant-loop-block : goal.invariant-loop-block
invariant-loop-block l = (k : ℕ) → k < 4 * l.block → slice_index l.high k ≡ bit_or (slice_index l.high k) (slice_index l.low k)

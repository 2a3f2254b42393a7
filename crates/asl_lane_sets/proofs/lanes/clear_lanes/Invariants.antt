use Rattle.asl_lane_sets.specs.Packed.{AreLanes, ClearedBelow}
use Rattle.asl_lane_sets.proofs.lanes.clear_lanes.Given as goal

-- the lanes so far are without the bits, and the others are as they were
abbrev pub invariant-loop-place : goal.invariant-loop-place
invariant-loop-place l = record {
  cleared : ClearedBelow l.place l.initial.lanes l.from l.lanes;
  lanes : AreLanes l.initial.lanes;
}

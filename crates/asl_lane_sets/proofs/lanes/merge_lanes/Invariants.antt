use Rattle.std.proofs.Common.{◌↔◌, ◌*◌, IsTrue}
use Rattle.asl_lane_sets.specs.Packed.{AreLanes, Differ, JoinedBelow}
use Rattle.asl_lane_sets.proofs.lanes.merge_lanes.Given as goal

-- the lanes of the blocks so far are joined, and the others are as they were
abbrev pub invariant-loop-block : goal.invariant-loop-block
invariant-loop-block l = record {
  joined : JoinedBelow (4 * l.block) l.initial.into l.from l.into;
  lanes : AreLanes l.initial.into;
  grew : IsTrue l.grew ↔ Differ l.initial.into l.into;
}

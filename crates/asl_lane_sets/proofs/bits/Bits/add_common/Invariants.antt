use Rattle.std.proofs.Common.{◌≡◌, ◌↔◌, ◌⊎◌, ◌*◌, ℕ, true, false}
use Rattle.std.specs.List.{Contains}
use Rattle.asl_lane_sets.proofs.CommonNumbers.{CommonBelow}
use Rattle.asl_lane_sets.proofs.bits.Bits.add_common.Given as goal

-- the numbers of both in the lanes so far are added
abbrev pub invariant-loop-place : goal.invariant-loop-place
invariant-loop-place l = record {
  added : (k : ℕ) → Contains l.list.items k ↔ (Contains l.initial.list.items k ⊎ CommonBelow l.self-inside.lanes l.other-inside.lanes (64 * l.place) k);
  some : l.some ≡ true → (k : ℕ) × CommonBelow l.self-inside.lanes l.other-inside.lanes (64 * l.place) k;
  none : l.some ≡ false → (k : ℕ) → CommonBelow l.self-inside.lanes l.other-inside.lanes (64 * l.place) k → ⊥;
}

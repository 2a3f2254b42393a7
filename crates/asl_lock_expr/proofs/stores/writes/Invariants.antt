use Rattle.std.proofs.Common.{◌≡◌, map, length, replicate}
use Rattle.asl_lane_sets.specs.NumberSet.{members_of}
use Rattle.asl_lock_expr.proofs.Storings.{AreBelow}
use Rattle.asl_lock_expr.proofs.stores.writes.Given as goal

abbrev pub invariant-loop-class : goal.invariant-loop-class
invariant-loop-class l = record {
  lengths : map length l.sets.items ≡ replicate l.count (length l.stored-items);
  below : AreBelow l.count l.stored-items l.callers.items (map members_of l.sets.items) l.class;
}

use Rattle.std.proofs.Common.{◌≡◌, ◌<◌, ◌⊎◌, ◌↔◌, ℕ, map, length}
use Rattle.asl_lane_sets.specs.NumberSet.{members_of}
use Rattle.asl_lock_expr.specs.Storing.{IsMarked, IsIn, row}
use Rattle.asl_lock_expr.proofs.stores.add_class.Given as goal

abbrev pub invariant-loop-function : goal.invariant-loop-function
invariant-loop-function l = record {
  lengths : map length l.sets.items ≡ map length l.initial.sets.items;
  classes : (f x : ℕ) → IsIn (row (map members_of l.sets.items) f) x ↔ (IsIn (row (map members_of l.initial.sets.items) f) x ⊎ ((f < l.function) × IsMarked l.marks f × (x ≡ l.class)));
}

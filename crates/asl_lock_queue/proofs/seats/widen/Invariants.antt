use Rattle.std.proofs.Common.{◌≡◌, ℕ, ◌<◌, ◌≤◌, All, map, vec_capacity, slice_index_or}
use Rattle.asl_lock_queue.proofs.seats.widen.Given as goal

abbrev pub invariant-loop-at : goal.invariant-loop-at
invariant-loop-at l = record {
  same : map (λ v. v.items) l.lists.items ≡ map (λ v. v.items) l.fn.lists.items;
  wide : (k : ℕ) (d : _) → k < l.at → l.nodes ≤ vec_capacity (slice_index_or l.lists.items k d);
  kept : (room : ℕ) → All (λ v. room ≤ vec_capacity v) l.fn.lists.items → All (λ v. room ≤ vec_capacity v) l.lists.items;
}

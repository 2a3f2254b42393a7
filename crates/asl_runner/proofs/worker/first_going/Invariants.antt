use Rattle.std.proofs.Common.{◌≡◌, ◌≢◌, ◌<◌, ◌≤◌, ◌%◌, ◌-◌, ℕ, true, Some, slice_get}
use Rattle.asl_runner.specs.Turning.{IsTurnOf}
use Rattle.asl_runner.proofs.worker.first_going.Given as goal

abbrev pub invariant-loop-t : goal.invariant-loop-t
invariant-loop-t l = record {
  mine : IsTurnOf l.post l.t;
  none : (t : ℕ) → l.low ≤ t → t < l.t → (t % l.post.workers) ≡ l.post.worker → slice_get l.going t ≢ Some true;
}

abbrev pub decreases-loop-t : goal.decreases-loop-t
decreases-loop-t l = l.high - l.t

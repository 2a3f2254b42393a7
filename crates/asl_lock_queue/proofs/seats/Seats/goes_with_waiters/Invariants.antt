use Rattle.std.proofs.Common.{ℕ, ◌<◌, [], slice_index_or}
use Rattle.asl_lock_queue.specs.Waiting.{GoTogether}
use Rattle.asl_lock_queue.specs.Lines.{wanted_of}
use Rattle.asl_lock_queue.proofs.seats.Seats.goes_with_waiters.Given as goal

abbrev pub invariant-loop-place : goal.invariant-loop-place
invariant-loop-place l = (k : ℕ) → k < l.place → GoTogether l.request (slice_index_or (wanted_of l.self) (slice_index_or l.self.line.items k 0) [])

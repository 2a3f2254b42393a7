use Rattle.std.proofs.Common.{◌≢◌, ℕ, ◌<◌, [], slice_index_or}
use Rattle.asl_lock_queue.specs.Waiting.{GoTogether}
use Rattle.asl_lock_queue.specs.Lines.{held_of}
use Rattle.asl_lock_queue.proofs.seats.Seats.goes_with_holders.Given as goal

abbrev pub invariant-loop-other : goal.invariant-loop-other
invariant-loop-other l = (k : ℕ) → k < l.other → k ≢ l.thread → GoTogether l.request (slice_index_or (held_of l.self) k [])

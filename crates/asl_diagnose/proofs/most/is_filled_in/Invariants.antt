use Rattle.std.proofs.Common.{ℕ, ◌<◌, slice_index}
use Rattle.asl_diagnose.specs.Brought.{IsKept}
use Rattle.asl_diagnose.proofs.most.is_filled_in.Given as goal

abbrev pub invariant-loop-at : goal.invariant-loop-at
invariant-loop-at l = (j : ℕ) → j < l.at → IsKept l.start l.end j (slice_index l.text j) (slice_index l.rest j)

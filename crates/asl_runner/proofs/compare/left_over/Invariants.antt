use Rattle.std.proofs.Common.{◌≡◌, ◌<◌, ℕ, length, get_or, Vec, Global, Some, slice_get}
use Rattle.asl_journal.specs.declared.event.Receipt.{Receipt}
use Rattle.asl_runner.proofs.compare.left_over.Given as goal

-- of the workers before, no receipt is left over
abbrev pub invariant-loop-worker : goal.invariant-loop-worker
invariant-loop-worker l =
    (worker : ℕ) (mine : Vec Receipt Global) → worker < l.worker → slice_get l.report.receipts.items worker ≡ Some mine → get_or l.next worker 0 ≡ length mine.items

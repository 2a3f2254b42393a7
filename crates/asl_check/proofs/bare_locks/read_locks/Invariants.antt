use Rattle.std.proofs.Common.{◌≡◌, take}
use Rattle.asl_check.specs.Checked.{reads_of}
use Rattle.asl_check.proofs.bare_locks.read_locks.Given as goal

abbrev pub invariant-loop-lock : goal.invariant-loop-lock
invariant-loop-lock l = l.reads.items ≡ reads_of (take l.lock-index l.list)

use Rattle.std.proofs.Common.{◌≡◌, ◌++◌, drop}
use Rattle.asl_parallel_c.specs.Lists.{lock_lines}
use Rattle.asl_parallel_c.proofs.lists.put_locks.Given as goal

abbrev pub invariant-loop-lock : goal.invariant-loop-lock
invariant-loop-lock g l = l.text.items ++ lock_lines (drop l.lock-index l.locks) ≡ l.fn.text.items ++ lock_lines l.locks

use Rattle.std.proofs.Common.{take}
use Rattle.asl_lock_expr.specs.Links.{IsOne}
use Rattle.asl_check.specs.Checked.{AreUnder, reads_of}
use Rattle.asl_check.proofs.bare_reads.first_bare_read.Given as goal

abbrev pub invariant-loop-lock : goal.invariant-loop-lock
invariant-loop-lock l = AreUnder l.classes l.function l.list (IsOne (reads_of (take l.lock-index l.list)))

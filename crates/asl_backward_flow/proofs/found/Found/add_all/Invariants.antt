use Rattle.std.proofs.Common.{vec_len}
use Rattle.asl_backward_flow.specs.Found.{table, AddsSome}
use Rattle.asl_backward_flow.proofs.found.Found.add_all.Given as goal

abbrev pub invariant-loop-lock : goal.invariant-loop-lock
invariant-loop-lock l = AddsSome (table l.fn.self) (table l.self) l.part l.pc l.fn.locks.items l.locks.items

abbrev pub decreases-loop-lock : goal.decreases-loop-lock
decreases-loop-lock l = vec_len l.locks

use Rattle.std.proofs.Common.{vec_len}
use Rattle.asl_backward_flow.specs.Found.{table}
use Rattle.asl_backward_flow.proofs.Entering.{ListsSome}
use Rattle.asl_backward_flow.proofs.found.Found.add_listed.Given as goal

abbrev pub invariant-loop-lock : goal.invariant-loop-lock
invariant-loop-lock l = ListsSome (table l.fn.self) (table l.self) l.part l.pc l.fn.locks.items l.locks.items l.fn.numbers l.numbers

abbrev pub decreases-loop-lock : goal.decreases-loop-lock
decreases-loop-lock l = vec_len l.locks

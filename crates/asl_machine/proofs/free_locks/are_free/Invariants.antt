-- the locks so far can be granted
use Rattle.std.proofs.Common.{take}
use Rattle.asl_lock_forest.specs.Holding.{CanGrant}
use Rattle.asl_machine.specs.Request.{request_of}
use Rattle.asl_machine.proofs.free_locks.are_free.Given as goal

abbrev pub invariant-loop-lock : goal.invariant-loop-lock
invariant-loop-lock l = CanGrant l.forest.holding l.t (request_of l.heap l.regs (take l.lock-index l.locks))

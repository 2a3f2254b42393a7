use Rattle.std.proofs.Common.{take}
use Rattle.asl_code.specs.declared.lock.Lock.{Lock}
use Rattle.asl_loader.specs.Bytes.{lock_fields, IsLock}
use Rattle.asl_loader.specs.Writing.{WritesEach}
use Rattle.asl_loader.proofs.image_writing.put_locks.Given as goal

abbrev pub invariant-loop-lock : goal.invariant-loop-lock
invariant-loop-lock l = WritesEach Lock IsLock lock_fields l.initial.out.items l.out.items (take l.lock-index l.locks)

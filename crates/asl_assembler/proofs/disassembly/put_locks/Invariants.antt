use Rattle.std.proofs.Common.{take}
use Rattle.asl_code.specs.declared.lock.Lock.{Lock}
use Rattle.asl_assembler.specs.Writing.{WritesEach, FitsLockLine, lock_text}
use Rattle.asl_assembler.proofs.disassembly.put_locks.Given as goal

abbrev pub invariant-loop-lock : goal.invariant-loop-lock
invariant-loop-lock l = WritesEach Lock FitsLockLine lock_text l.initial.text.items l.text.items (take l.lock-index l.locks)

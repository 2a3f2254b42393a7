use Rattle.asl_code.specs.declared.lock.Lock.{Lock}
use Rattle.asl_loader.specs.ImageFields.{items_at, lock_at}
use Rattle.asl_loader.proofs.Lists.{HoldsLocks}
use Rattle.asl_loader.proofs.Loop.{Kept}
use Rattle.asl_loader.proofs.lock_fields.locks_of.Given as goal

abbrev pub invariant-loop : goal.invariant-loop
invariant-loop l = Kept Lock lock_at (HoldsLocks l.count l.locks) l.count l.counter l.rest (items_at lock_at l.count l.bytes)

use Rattle.std.proofs.Common.{◌≡◌, ◌++◌, map, take}
use Rattle.asl_code.specs.declared.lock.Lock.{Lock}
use Rattle.asl_check.specs.declared.fault.CheckFault.TheVariants.{Uncovered}
use Rattle.asl_check.proofs.lacks.add_uncovered.Given as goal

abbrev pub invariant-loop-lock : goal.invariant-loop-lock
invariant-loop-lock l = l.faults.items ≡ l.fn.faults.items ++ map (λ (a : Lock). Uncovered l.number a) (take l.lock-index l.locks)

use Rattle.std.proofs.Common.{take}
use Rattle.asl_code.specs.declared.lock.Lock.{Lock}
use Rattle.asl_lock_expr.specs.Links.{IsOne}
use Rattle.asl_emitter.specs.Lists.{IsFree}
use Rattle.asl_emitter.proofs.reduced.are_free.Given as goal

abbrev pub invariant-loop-at : goal.invariant-loop-at
invariant-loop-at l = (a : Lock) → IsOne (take l.at l.given) a → IsFree l.classes l.function (IsOne l.given) a

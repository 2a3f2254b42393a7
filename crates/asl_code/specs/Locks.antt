-- What a lock is for (docs/LOCKS.md, Requests).
use Rattle.asl_code.specs.declared.value.Effect.{Effect}
use Rattle.asl_code.specs.declared.lock.Lock.{Lock}
use Rattle.asl_code.specs.declared.lock.Lock.TheVariants as lock

-- what a lock is for: reading or writing
abbrev pub effect_of : Lock → Effect
effect_of (lock.Root effect) = effect
effect_of (lock.Class class effect) = effect
effect_of (lock.Expr expr effect) = effect

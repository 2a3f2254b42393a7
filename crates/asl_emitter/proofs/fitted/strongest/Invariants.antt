use Rattle.std.proofs.Common.{◌≡◌, drop}
use Rattle.asl_emitter.specs.Lists.{strongest}
use Rattle.asl_emitter.proofs.fitted.strongest.Given as goal

abbrev pub invariant-loop-lock : goal.invariant-loop-lock
invariant-loop-lock l = strongest (drop l.lock-index l.locks) ≡ strongest l.locks

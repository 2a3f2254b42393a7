use Rattle.std.proofs.Common.{◌≡◌, ◌<◌, ℕ, Some, slice_get}
use Rattle.asl_code.specs.declared.lock.Lock.{Lock}
use Rattle.asl_explain.specs.Lengths.{IsBelow}
use Rattle.asl_explain.proofs.short_paths.are_below.Given as goal

abbrev pub invariant-loop-number : goal.invariant-loop-number
invariant-loop-number l = (n : ℕ) (lock : Lock) → n < l.number → slice_get l.locks n ≡ Some lock → IsBelow l.limit lock

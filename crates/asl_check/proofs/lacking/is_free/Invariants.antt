use Rattle.std.proofs.Common.{◌≡◌, ◌<◌, ℕ, Some, slice_get}
use Rattle.asl_code.specs.declared.lock.Lock.{Lock}
use Rattle.asl_backward_flow.specs.Needed.{RegionNeeds}
use Rattle.asl_emitter.specs.Lists.{Absorbs}
use Rattle.asl_check.proofs.lacking.is_free.Given as goal

abbrev pub invariant-loop-number : goal.invariant-loop-number
invariant-loop-number l =
    (p : RegionNeeds) → slice_get l.flow l.place ≡ Some p → (n : ℕ) → n < l.number → (k : ℕ) (a : Lock) → slice_get p.needs k ≡ Some (l.pc, n) → slice_get p.locks n ≡ Some a → ¬ Absorbs l.classes l.function a l.lock

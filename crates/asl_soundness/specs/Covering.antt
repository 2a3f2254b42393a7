-- Which lock of a list is enough for a lock that is needed (docs/SOUNDNESS.md, "The statement").
use Rattle.std.specs.Prelude.{◌≡◌, ℕ, Bool, true, false, IsTrue, Some}
use Rattle.asl_code.specs.Locks.{effect_of}
use Rattle.asl_code.specs.declared.value.Effect.{Effect}
use Rattle.asl_code.specs.declared.value.Effect.TheVariants.{Read, Write}
use Rattle.asl_code.specs.declared.lock.Lock.{Lock}
use Rattle.asl_code.specs.declared.lock.Lock.TheVariants as lock
use Rattle.asl_points_to.specs.Classes.{Classed}
use Rattle.asl_lock_expr.specs.ClassOf.{class_of}

-- the first effect is at least as strong
abbrev pub covers_effect : Effect → Effect → Bool
covers_effect Write other = true
covers_effect Read Read = true
covers_effect Read Write = false

-- the first lock covers the second in a function: it is the root, the same class, the class of the expression or the
-- same expression, with an effect at least as strong
abbrev pub CoversLock : Classed → ℕ → Lock → Lock → Type 0
CoversLock c function (lock.Root effect) n = IsTrue (covers_effect effect (effect_of n))
CoversLock c function (lock.Class x effect) (lock.Class y other) = (x ≡ y) × IsTrue (covers_effect effect other)
CoversLock c function (lock.Class x effect) (lock.Expr e other) = (class_of c function e ≡ Some x) × IsTrue (covers_effect effect other)
CoversLock c function (lock.Expr d effect) (lock.Expr e other) = (d ≡ e) × IsTrue (covers_effect effect other)
CoversLock c function m n = ⊥

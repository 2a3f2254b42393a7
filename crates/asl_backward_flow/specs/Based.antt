-- That a needed lock names nothing that is missing: its base, class or expression is there (docs/ANALYSIS.md, "Needed locks"). Promised
-- by the law `what_needed_locks_name_is_there` of src/laws.rt.
use Rattle.std.specs.Prelude.{◌≡◌, ◌<◌, ◌≤◌, ℕ, length, Some, slice_get}
use Rattle.asl_code.specs.declared.image.Function as entry
use Rattle.asl_code.specs.declared.lock.Base.{Base}
use Rattle.asl_code.specs.declared.lock.Base.TheVariants.{Reg, Global}
use Rattle.asl_code.specs.declared.lock.Lock.{Lock}
use Rattle.asl_code.specs.declared.lock.Lock.TheVariants as lock
use Rattle.asl_lower.specs.Lowered.{Lowered}
use Rattle.asl_points_to.specs.Classes.{Classed}
use Rattle.asl_lock_expr.specs.ClassOf.{class_of}

-- the base is a register of the function, or a global
abbrev pub HasBase : Lowered → ℕ → Base → Type 0
HasBase l f (Reg register) = (e : entry.Function) × (slice_get l.functions f ≡ Some e) × (register < e.regs)
HasBase l f (Global global) = global < l.globals

-- what a needed lock of the function `f` is, with paths of at most `k_limit` operations: on a class that is there, or on an expression
-- whose base is there, which is not too long, and which has a class that is there; none is on the root
abbrev pub IsLockOf : Lowered → Classed → ℕ → ℕ → Lock → Type 0
IsLockOf l c k_limit f (lock.Root effect) = ⊥
IsLockOf l c k_limit f (lock.Class class effect) = class < c.count
IsLockOf l c k_limit f (lock.Expr e effect) =
    HasBase l f e.base × (length e.path ≤ k_limit) × ((class : ℕ) × (class_of c f e ≡ Some class) × (class < c.count))

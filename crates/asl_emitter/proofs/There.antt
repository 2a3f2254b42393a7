-- What a lock is on is there.
use Rattle.std.specs.Prelude.{◌<◌, ℕ, length}
use Rattle.asl_code.specs.declared.lock.Base.{Base}
use Rattle.asl_code.specs.declared.lock.Base.TheVariants.{Reg, Global}
use Rattle.asl_code.specs.declared.lock.Lock.{Lock}
use Rattle.asl_code.specs.declared.lock.Lock.TheVariants as lock
use Rattle.asl_points_to.specs.Classes.{Classed}

-- the base is one of so many registers, or a global
abbrev pub IsBaseIn : Classed → ℕ → Base → Type 0
IsBaseIn c regs (Reg register) = register < regs
IsBaseIn c regs (Global global) = global < length c.globals

-- the class is there, or the base of the expression
abbrev pub IsLockIn : Classed → ℕ → Lock → Type 0
IsLockIn c regs (lock.Root effect) = Unit {0}
IsLockIn c regs (lock.Class class effect) = class < c.count
IsLockIn c regs (lock.Expr e effect) = IsBaseIn c regs e.base

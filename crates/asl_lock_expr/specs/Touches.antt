-- Machinery of the proofs, not of the promise: what an instruction may change of what a lock reads (src/touch.rt).
use Rattle.std.specs.Prelude.{◌≡◌, ◌||◌, ◌&&◌, Bool, false}
use Rattle.asl_code.specs.declared.instr.Instr.{Instr}
use Rattle.asl_code.specs.declared.instr.Instr.TheVariants as instr
use Rattle.asl_code.specs.declared.lock.Expr.{Expr}
use Rattle.asl_code.specs.declared.lock.Lock.{Lock}
use Rattle.asl_code.specs.declared.lock.Lock.TheVariants as lock
use Rattle.asl_points_to.specs.Classes.{to}
use Rattle.asl_lock_expr.specs.declared.touch.Touch.{Touch}
use Rattle.asl_lock_expr.specs.declared.touch.Touch.TheVariants as touch
use Rattle.asl_lock_expr.specs.ClassOf.{base_class}
use Rattle.asl_lock_expr.specs.Links.{LinkContext, IsOne, IsSettled, is_register, begins_with_star, goes_through, link, dereferenced}
use Rattle.asl_lock_expr.specs.Meeting.{meets}

-- the register that an instruction sets, and what it stores to
abbrev pub set_by : Instr → Touch
set_by (instr.Move a b) = touch.Register a
set_by (instr.GlobalAddress a g) = touch.Register a
set_by (instr.FieldAddress a b d) = touch.Register a
set_by (instr.Load a b) = touch.Register a
set_by (instr.SetInt a n) = touch.Register a
set_by (instr.SetNull a) = touch.Register a
set_by (instr.Add a x y) = touch.Register a
set_by (instr.Subtract a x y) = touch.Register a
set_by (instr.LessThan a x y) = touch.Register a
set_by (instr.Equals a x y) = touch.Register a
set_by (instr.New a n s) = touch.Register a
set_by (instr.Call a b g) = touch.Register a
set_by i = touch.Nothing

-- what an instruction stores to: the cell whose address is in a register, or what the callee of a call may store to
abbrev pub stored_by : Instr → Touch
stored_by (instr.Store a b) = touch.Store a
stored_by (instr.Call a b g) = touch.Call g
stored_by i = touch.Nothing

-- whether a part of an expression is touched
abbrev pub is_concerned : LinkContext → Touch → Expr → Bool
is_concerned v touch.Nothing e = false
is_concerned v (touch.Register a) e = is_register a e.base
is_concerned v (touch.Store a) e =
    (is_register a e.base && begins_with_star e.path)
    || meets v.classes (to v.classes v.function a) (base_class v.classes v.function e.base) e.path
is_concerned v (touch.Call g) e = goes_through v.classes (v.stores g) (base_class v.classes v.function e.base) e.path

-- what is touched does not concern the lock
abbrev pub IsClear : LinkContext → Touch → Lock → Type 0
IsClear v t (lock.Expr e effect) = IsSettled v (lock.Expr e effect) × (is_concerned v t e ≡ false)
IsClear v t (lock.Class class effect) = Unit {0}
IsClear v t (lock.Root effect) = Unit {0}

-- the lock stays as it is over the instruction, and its dereferenced prefixes too
pub record Stays (v : LinkContext) (i : Instr) (m : Lock) : Type 0 where
  pub itself : (n : Lock) → IsOne (link v i m) n → m ≡ n
  pub there : IsOne (link v i m) m
  pub fronts : (d : Lock) → IsOne (dereferenced m) d → IsOne (link v i d) d

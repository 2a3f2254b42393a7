-- When a thread has what a lock is for (docs/SOUNDNESS.md, "Second pass: one function").
use Rattle.std.specs.Prelude.{◌≡◌, ◌<◌, ℕ, Bool, IsTrue, ◌||◌, List, length, Option, None, Some}
use Rattle.asl_code.specs.declared.value.Value.{Value}
use Rattle.asl_code.specs.declared.value.Cell.{Cell}
use Rattle.asl_code.specs.declared.value.Effect.{Effect}
use Rattle.asl_code.specs.declared.lock.Base.{Base}
use Rattle.asl_code.specs.declared.lock.Base.TheVariants.{Reg, Global}
use Rattle.asl_code.specs.declared.lock.Lock.{Lock}
use Rattle.asl_code.specs.declared.lock.Lock.TheVariants as lock
use Rattle.asl_mode_lanes.specs.Mode.{is_at_most}
use Rattle.asl_lock_forest.specs.declared.node.Node.TheVariants.{Root, Class}
use Rattle.asl_lock_forest.specs.Holding.{Holding, held, covering_mode}
use Rattle.asl_points_to.specs.Classes.{Classed}
use Rattle.asl_expression.specs.Expression.{cell_denoted}
use Rattle.asl_machine.specs.State.{Object, class_of}
use Rattle.asl_machine.specs.Request.{heap_of}
use Rattle.asl_machine.specs.Cover.{Cover, Allows}

-- the thread holds the node of the class, or the root, for the effect
abbrev pub is_class_covered : Holding → ℕ → ℕ → Effect → Bool
is_class_covered h t class effect =
    is_at_most (covering_mode effect) (held h t (Class class)) || is_at_most (covering_mode effect) (held h t Root)

-- the thread may access the cell, if there is one
abbrev pub CellProtected : Cover → ℕ → List Object → Effect → Option Cell → Type 0
CellProtected k t objects effect None = Unit {0}
CellProtected k t objects effect (Some cell) = (x : ℕ) → class_of objects cell.object ≡ Some x → Allows k t cell x effect

-- a lock is protected for a thread with these registers, over these objects: what it is on is covered; an expression that
-- denotes no cell is on nothing
abbrev pub Protected : Cover → ℕ → List Object → List Value → Lock → Type 0
Protected k t objects regs (lock.Root effect) = IsTrue (is_at_most (covering_mode effect) (held k.holding t Root))
Protected k t objects regs (lock.Class class effect) = IsTrue (is_class_covered k.holding t class effect)
Protected k t objects regs (lock.Expr e effect) = CellProtected k t objects effect (cell_denoted (heap_of objects) regs e)

-- the global on which an expression begins is there
abbrev pub BaseThere : Classed → Base → Type 0
BaseThere c (Reg register) = Unit {0}
BaseThere c (Global global) = global < length c.globals

-- the global on which the expression of a lock begins is there; a lock on a class or on the root has none
abbrev pub LockThere : Classed → Lock → Type 0
LockThere c (lock.Root effect) = Unit {0}
LockThere c (lock.Class class effect) = Unit {0}
LockThere c (lock.Expr e effect) = BaseThere c e.base

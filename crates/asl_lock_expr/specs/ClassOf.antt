-- The class of an expression, and the classes that a function may store to (docs/ANALYSIS.md, "Classes of expressions" and
-- "Written classes").
use Rattle.std.specs.Prelude.{◌≡◌, ◌↔◌, ℕ, Bool, IsTrue, List, [], ◌∷◌, Option, Some, slice_get, option_and_then}
use Rattle.asl_code.specs.declared.lock.Base.{Base}
use Rattle.asl_code.specs.declared.lock.Base.TheVariants.{Reg, Global}
use Rattle.asl_code.specs.declared.lock.Expr.{Expr}
use Rattle.asl_code.specs.declared.path.Op.{Op}
use Rattle.asl_code.specs.declared.path.Op.TheVariants.{Deref, Off}
use Rattle.asl_code.specs.declared.instr.Instr.TheVariants as instr
use Rattle.asl_lower.specs.Lowered.{Lowered}
use Rattle.asl_lower.specs.OpenSections.{InBody, CallsAt}
use Rattle.asl_points_to.specs.Classes.{Classed, to, inside}

-- the class at the base: that to which the register points, or the global's
abbrev pub base_class : Classed → ℕ → Base → Option ℕ
base_class c function (Reg register) = to c function register
base_class c function (Global global) = slice_get c.globals global

-- one operation: `.i` keeps the class, `*` takes what is inside
abbrev pub step_class : Classed → Op → ℕ → Option ℕ
step_class c Deref class = inside c class
step_class c (Off places) class = Some class

-- all operations in order
abbrev pub path_class : Classed → List Op → Option ℕ → Option ℕ
path_class c [] start = start
path_class c (op ∷ ops) start = path_class c ops (option_and_then (step_class c op) start)

-- the class of an expression of a function, if it has one
abbrev pub class_of : Classed → ℕ → Expr → Option ℕ
class_of c function expr = path_class c expr.path (base_class c function expr.base)

-- a function may store to a class: by a store of its own, or of a function that it calls
pub data MayStore (l : Lowered) (c : Classed) : ℕ → ℕ → Type 0 where
  Itself : (function pc address from class : ℕ) → InBody l function pc → slice_get l.code pc ≡ Some (instr.Store address from) → to c function address ≡ Some class → MayStore l c function class
  ByCall : (function pc callee class : ℕ) → InBody l function pc → CallsAt l pc callee → MayStore l c callee class → MayStore l c function class

-- the test tells of each function and class whether the function may store to the class
abbrev pub TellsStores : Lowered → Classed → (ℕ → ℕ → Bool) → Type 0
TellsStores l c stores = (function class : ℕ) → IsTrue (stores function class) ↔ MayStore l c function class

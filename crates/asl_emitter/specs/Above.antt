-- Machinery of the proofs, not of the promise: the locks that absorb one (src/absorb.rt).
use Rattle.std.specs.Prelude.{ℕ, Bool, true, false, List, [], ◌∷◌, ◌++◌, Option, None, Some}
use Rattle.asl_code.specs.declared.value.Effect.{Effect}
use Rattle.asl_code.specs.declared.value.Effect.TheVariants.{Read, Write}
use Rattle.asl_code.specs.declared.lock.Expr.{Expr}
use Rattle.asl_code.specs.declared.lock.Lock.{Lock}
use Rattle.asl_code.specs.declared.lock.Lock.TheVariants as lock
use Rattle.asl_points_to.specs.Classes.{Classed}
use Rattle.asl_lock_expr.specs.ClassOf.{class_of}
use Rattle.asl_lock_expr.specs.Links.{IsOne}

-- the locks on a class that absorb one on an expression of it with this effect
abbrev pub classes_above : Option ℕ → Effect → List Lock
classes_above None effect = []
classes_above (Some class) Write = lock.Class class Write ∷ []
classes_above (Some class) Read = lock.Class class Write ∷ lock.Class class Read ∷ []

-- the lock on the class, or on the expression, that is stronger than one with this effect
abbrev pub stronger_class : ℕ → Effect → List Lock
stronger_class class Write = []
stronger_class class Read = lock.Class class Write ∷ []

-- the lock on the expression that is stronger than one with this effect
abbrev pub stronger_expr : Expr → Effect → List Lock
stronger_expr e Write = []
stronger_expr e Read = lock.Expr e Write ∷ []

-- the locks that absorb one on the expression of the function `f` with this effect: those on its class, and the stronger one on itself
abbrev pub above_expr : Classed → ℕ → Expr → Effect → List Lock
above_expr c f e effect = classes_above (class_of c f e) effect ++ stronger_expr e effect

-- the locks that absorb this one in the function `f`; none absorbs one on the root
abbrev pub above : Classed → ℕ → Lock → List Lock
above c f (lock.Root effect) = []
above c f (lock.Class class effect) = stronger_class class effect
above c f (lock.Expr e effect) = above_expr c f e effect

-- whether the lock is on an expression
abbrev pub is_expr : Lock → Bool
is_expr (lock.Expr e effect) = true
is_expr a = false

-- the list has one of these
abbrev pub HasOneOf : List Lock → List Lock → Type 0
HasOneOf given these = (b : Lock) × IsOne these b × IsOne given b

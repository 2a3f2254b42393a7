-- The order of locks in a list (docs/ANALYSIS.md, "The order of locks").
use Rattle.std.specs.Prelude.{◌≡◌, ◌+◌, ℕ, List, [], ◌∷◌, ◌++◌, map}
use Rattle.std.specs.declared.cmp.Ordering.{Ordering}
use Rattle.std.specs.declared.cmp.Ordering.TheVariants.{Less}
use Rattle.std.specs.Ordering.{nat_cmp}
use Rattle.std.specs.Cmp.Lexicographic.{slice_cmp}
use Rattle.asl_code.specs.declared.value.Effect.{Effect}
use Rattle.asl_code.specs.declared.value.Effect.TheVariants.{Read, Write}
use Rattle.asl_code.specs.declared.lock.Base.{Base}
use Rattle.asl_code.specs.declared.lock.Base.TheVariants.{Reg, Global}
use Rattle.asl_code.specs.declared.lock.Lock.{Lock}
use Rattle.asl_code.specs.declared.lock.Lock.TheVariants as lock
use Rattle.asl_code.specs.declared.path.Op.{Op}
use Rattle.asl_code.specs.declared.path.Op.TheVariants.{Deref, Off}
use Rattle.asl_lock_expr.specs.Links.{IsOne}

-- a read before a write
abbrev pub effect_code : Effect → ℕ
effect_code Read = 0
effect_code Write = 1

-- `*` before `.0` before `.1`; 0 is for the end of a path
abbrev pub op_code : Op → ℕ
op_code Deref = 1
op_code (Off places) = places + 2

-- registers before globals, by number
abbrev pub base_code : Base → List ℕ
base_code (Reg register) = 2 ∷ register ∷ []
base_code (Global global) = 3 ∷ global ∷ []

-- a lock as numbers: the root, then classes, then expressions by base and path; the effect is the last
abbrev pub lock_code : Lock → List ℕ
lock_code (lock.Root effect) = 0 ∷ effect_code effect ∷ []
lock_code (lock.Class class effect) = 1 ∷ class ∷ effect_code effect ∷ []
lock_code (lock.Expr e effect) = base_code e.base ++ (map op_code e.path ++ 0 ∷ effect_code effect ∷ [])

-- the order of locks: that of their numbers, from the front
abbrev pub lock_cmp : Lock → Lock → Ordering
lock_cmp a b = slice_cmp nat_cmp (lock_code a) (lock_code b)

-- each lock of the list comes before all later ones: so none stands twice
abbrev pub AreInOrder : List Lock → Type 0
AreInOrder [] = Unit {0}
AreInOrder (a ∷ rest) = ((b : Lock) → IsOne rest b → lock_cmp a b ≡ Less) × AreInOrder rest

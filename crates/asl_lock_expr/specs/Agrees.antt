-- A heap whose addresses are where the classes say (docs/PROOFS.md, "Classes, expressions and links").
use Rattle.std.specs.Prelude.{◌≡◌, ℕ, Option, Some}
use Rattle.asl_code.specs.declared.value.Value.{Value}
use Rattle.asl_code.specs.declared.value.Value.TheVariants.{Int, Null, Addr}
use Rattle.asl_code.specs.declared.value.Cell.{Cell}
use Rattle.asl_points_to.specs.Classes.{Classed, inside}
use Rattle.asl_expression.specs.Expression.{Seen}

-- if the value is an address, it is that of an object of the class; `classes` tells the classes of objects
abbrev pub PointsTo : (ℕ → Option ℕ) → Option ℕ → Value → Type 0
PointsTo classes class (Int n) = Unit {0}
PointsTo classes class Null = Unit {0}
PointsTo classes class (Addr object offset) = (x : ℕ) × (class ≡ Some x) × (classes object ≡ Some x)

-- what the cells of a class hold points to what is inside the class
abbrev pub HeapAgrees : Classed → (ℕ → Option ℕ) → Seen → Type 0
HeapAgrees c classes h = (cell : Cell) (v : Value) (x : ℕ) → h.cell cell ≡ Some v → classes cell.object ≡ Some x → PointsTo classes (inside c x) v

-- a heap that differs from another in one cell, which holds the value
pub record IsWrite (h new : Seen) (cell : Cell) (value : Value) : Type 0 where
  pub sizes : (n : ℕ) → new.size n ≡ h.size n
  pub there : new.cell cell ≡ Some value
  pub others : (k : Cell) → ((k ≡ cell) → ⊥) → new.cell k ≡ h.cell k

-- Which accesses a thread may make. The rule is that of S. Cherem, T. Chilimbi, S. Gulwani, "Inferring Locks for Atomic
-- Sections" (2008): an access that no held lock protects does not happen (docs/LOCKS.md, "Covered cells"). To it comes,
-- by images of version 2, that what a section has made itself needs no lock (docs/LOCKS.md, "Fresh objects"). See
-- docs/INSTRUCTIONS.md.
use Rattle.std.specs.Prelude.{◌≡◌, ◌<◌, ℕ, Bool, false, ◌&&◌, nat_lt, List, Some, slice_get, IsSome}
use Rattle.std.specs.Option.{option_map_or}
use Rattle.asl_code.specs.declared.value.Value.{Value}
use Rattle.asl_code.specs.declared.value.Value.TheVariants.{Int, Null, Addr}
use Rattle.asl_code.specs.declared.value.Cell.{Cell}
use Rattle.asl_code.specs.declared.value.Effect.{Effect}
use Rattle.asl_machine.specs.Cover.{Cover, allows}
use Rattle.asl_machine.specs.State.{Object, class_of, cell_at}
use Rattle.asl_expression.specs.Expression.{cell_of}

-- whether a thread that is in so many sections may access the cell: it is in one, and the cell is covered for it
abbrev pub is_protected : Cover → List Object → ℕ → ℕ → Effect → Cell → Bool
is_protected c objects thread depth effect cell =
    nat_lt 0 depth && option_map_or (λ class. allows c thread cell class effect) (class_of objects cell.object) false

-- if the value is an address, it is that of a cell that is there
abbrev pub Points : List Object → Value → Type 0
Points objects (Int number) = Unit {0}
Points objects Null = Unit {0}
Points objects (Addr object offset) = IsSome (cell_at objects (cell_of object offset))

-- every address in the registers is that of a cell that is there
abbrev pub AllPoint : List Object → List Value → Type 0
AllPoint objects regs = (register : ℕ) (value : Value) → slice_get regs register ≡ Some value → Points objects value

-- the classes of all objects are below the count
abbrev pub AreOfClasses : ℕ → List Object → Type 0
AreOfClasses classes objects = (number class : ℕ) → class_of objects number ≡ Some class → class < classes

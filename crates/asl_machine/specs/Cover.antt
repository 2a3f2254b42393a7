-- What a thread's accesses are judged by (docs/LOCKS.md, "Covered cells"). Who asks whether a cell is covered asks it here.
use Rattle.std.specs.Prelude.{ℕ, ◌||◌, ◌==◌, Bool, IsTrue, List}
use Rattle.std.specs.List.{list_any}
use Rattle.asl_code.specs.declared.value.Cell.{Cell}
use Rattle.asl_code.specs.declared.value.Effect.{Effect}
use Rattle.asl_lock_forest.specs.Holding.{Holding, is_covered}

-- whether the object is one of these
abbrev pub is_fresh : List ℕ → ℕ → Bool
is_fresh fresh object = list_any (λ one. one == object) fresh

-- what may cover a thread's accesses: what is held, and the objects that are fresh for the thread
pub record Cover : Type 0 where
  pub holding : Holding
  pub fresh : List ℕ

-- what covers the accesses of a thread for which these objects are fresh, under this holding
abbrev pub cover : Holding → List ℕ → Cover
cover holding fresh = record { holding = holding; fresh = fresh }

-- whether a cell of an object of the class is covered for the thread: its object is fresh for the thread, made in the section
-- that it is in, and needs no lock; or what the thread holds covers it
abbrev pub allows : Cover → ℕ → Cell → ℕ → Effect → Bool
allows c thread cell class effect = is_fresh c.fresh cell.object || is_covered c.holding thread cell class effect

-- the cell is covered for the thread
abbrev pub Allows : Cover → ℕ → Cell → ℕ → Effect → Type 0
Allows c thread cell class effect = IsTrue (allows c thread cell class effect)

-- The objects and their cells (docs/JOURNAL.md, "The view" and "Stacks, objects and requests").
use Rattle.std.specs.Prelude.{ℕ, List, [], ◌∷◌, ◌++◌, length, codes}
use Rattle.std.specs.Fmt.{decimal}
use Rattle.std.specs.Option.{option_map_or}
use Rattle.asl_code.specs.declared.value.Cell.{Cell}
use Rattle.asl_machine.specs.State.{State, cell_at, size_of, class_of}
use Rattle.asl_show.specs.Replies.{address_text, value_text}
use Rattle.asl_show.specs.Lines.{lines_from}

-- the cell of an object
abbrev pub cell_of : ℕ → ℕ → Cell
cell_of o i = record { object = o; offset = i }

-- the line of a cell, if it is there
abbrev pub cell_line : State → ℕ → ℕ → List ℕ
cell_line s o i =
    option_map_or (λ value. codes "cell " ++ address_text o i ++ codes " " ++ value_text value ++ 10 ∷ []) (cell_at s.objects (cell_of o i)) []

-- how many cells an object has
abbrev pub cell_count : State → ℕ → ℕ
cell_count s o = option_map_or (λ size. size) (size_of s.objects o) 0

-- the cells of an object
abbrev pub object_text : State → ℕ → List ℕ
object_text s o = lines_from (cell_line s o) 0 (cell_count s o)

-- ---- the objects

-- the line of an object, if it is there: its number, its class, how many cells it has
abbrev pub object_line : State → ℕ → List ℕ
object_line s o =
    option_map_or (λ class. codes "object " ++ decimal o ++ codes " " ++ decimal class ++ codes " " ++ decimal (cell_count s o) ++ 10 ∷ []) (class_of s.objects o) []

-- the lines of all objects
abbrev pub objects_text : State → List ℕ
objects_text s = lines_from (object_line s) 0 (length s.objects)

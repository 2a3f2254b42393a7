-- What C shows of its registers and of its heap (docs/EMBEDDING.md, "The request of a list from C"). Objects are named by their places among
-- those that are shown; each has a number, under which its cells are locked.
use Rattle.std.specs.Prelude.{◌≡◌, ℕ, ◌==◌, ◌&&◌, List, [], ◌∷◌, length, map, Option, None, Some, slice_get, if◌then◌else◌}
use Rattle.std.specs.Option.{option_map_or}
use Rattle.asl_code.specs.declared.value.Value.{Value}
use Rattle.asl_code.specs.declared.value.Cell.{Cell}
use Rattle.asl_expression.specs.Expression.{cell_of, pointed}
use Rattle.asl_lock_forest.specs.declared.node.Node.{Node}
use Rattle.asl_lock_forest.specs.declared.node.Node.TheVariants.{Root, Class, Leaf}
use Rattle.asl_machine.specs.State.{Object, cell_at}
use Rattle.asl_c_requests.specs.declared.shown.ShownCell.{ShownCell}
use Rattle.asl_c_requests.specs.declared.shown.ShownObject.{ShownObject}
use Rattle.asl_c_requests.specs.declared.shown.ShownValue.{ShownValue}

-- the cell that a value is the address of
abbrev pub address_of : ShownValue → Option Cell
address_of v = if v.kind == 1 then Some (cell_of v.object v.offset) else None

-- what is told of a cell, first: the cell whose address it holds, if it holds one
abbrev pub told_at : List ShownCell → Cell → Option (Option Cell)
told_at [] cell = None
told_at (c ∷ cs) cell = if (c.object == cell.object) && (c.offset == cell.offset) then Some (address_of c.value) else told_at cs cell

-- the class and the size of an object
abbrev pub shape : Object → ℕ × ℕ
shape o = (o.class, length o.cells)

-- the class and the size of an object that is shown
abbrev pub shown_shape : ShownObject → ℕ × ℕ
shown_shape o = (o.class, o.size)

-- the registers and the objects are what is shown: registers hold the addresses that are shown, objects have their classes and sizes, and
-- each cell that is there holds what is told of it
pub record IsShown (registers : List ShownValue) (objects : List ShownObject) (cells : List ShownCell) (regs : List Value) (heap : List Object) : Type 0 where
  pub holds : map pointed regs ≡ map address_of registers
  pub shapes : map shape heap ≡ map shown_shape objects
  pub tells : (cell : Cell) (value : Value) (told : Option Cell) → cell_at heap cell ≡ Some value → told_at cells cell ≡ Some told → pointed value ≡ told

-- the number of the object at this place
abbrev pub number_at : List ShownObject → ℕ → ℕ
number_at objects place = option_map_or (λ (o : ShownObject). o.number) (slice_get objects place) 0

-- the node as it is locked: the object of a leaf by its number
abbrev pub numbered : List ShownObject → Node → Node
numbered objects Root = Root
numbered objects (Class class) = Class class
numbered objects (Leaf cell class) = Leaf (cell_of (number_at objects cell.object) cell.offset) class

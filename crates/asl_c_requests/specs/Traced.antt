-- Machinery of the proofs, not of the promise: the evaluation of a list over what C shows, which ends at the first cell of which nothing is
-- told.
use Rattle.std.specs.Prelude.{ℕ, ◌+◌, Bool, false, nat_lt, List, [], ◌∷◌, Option, None, Some, slice_get, option_map, option_and_then, Result, Ok, Err, if◌then◌else◌}
use Rattle.std.specs.Option.{option_map_or}
use Rattle.asl_code.specs.Locks.{effect_of}
use Rattle.asl_code.specs.declared.value.Cell.{Cell}
use Rattle.asl_code.specs.declared.value.Effect.{Effect}
use Rattle.asl_code.specs.declared.lock.Base.{Base}
use Rattle.asl_code.specs.declared.lock.Base.TheVariants.{Reg, Global}
use Rattle.asl_code.specs.declared.lock.Lock.{Lock}
use Rattle.asl_code.specs.declared.lock.Lock.TheVariants as lock
use Rattle.asl_code.specs.declared.path.Op.{Op}
use Rattle.asl_code.specs.declared.path.Op.TheVariants.{Deref, Off}
use Rattle.asl_expression.specs.Expression.{cell_of}
use Rattle.asl_lock_forest.specs.declared.node.Node.{Node}
use Rattle.asl_lock_forest.specs.declared.node.Node.TheVariants.{Root, Class, Leaf}
use Rattle.asl_lock_forest.specs.Holding.{Request}
use Rattle.asl_machine.specs.Asking.{asks_at}
use Rattle.asl_c_requests.specs.Placed.{placed_all}
use Rattle.asl_c_requests.specs.Shown.{address_of, told_at}
use Rattle.asl_c_requests.specs.declared.shown.ShownCell.{ShownCell}
use Rattle.asl_c_requests.specs.declared.shown.ShownObject.{ShownObject}
use Rattle.asl_c_requests.specs.declared.shown.ShownValue.{ShownValue}

-- whether the cell's object is shown, and has it
abbrev pub is_there : List ShownObject → Cell → Bool
is_there objects cell = option_map_or (λ (o : ShownObject). nat_lt cell.offset o.size) (slice_get objects cell.object) false

-- what is told of a cell that is there; or the cell
abbrev pub told_or : Option (Option Cell) → Cell → Result (Option Cell) Cell
told_or None cell = Err cell
told_or (Some next) cell = Ok next

-- where `*` leads from the cell: nowhere if the cell is not there, else where is told; or the cell, if nothing is told of it
abbrev pub followed : List ShownObject → List ShownCell → Cell → Result (Option Cell) Cell
followed objects cells cell = if is_there objects cell then told_or (told_at cells cell) cell else Ok None

-- how many cells the object at a place has, if one is shown there
abbrev pub size_at : List ShownObject → ℕ → Option ℕ
size_at objects place = option_map (λ (o : ShownObject). o.size) (slice_get objects place)

-- the cell some places on, if its object has it
abbrev pub moved : List ShownObject → ℕ → Cell → Option Cell
moved objects places cell =
    option_and_then (λ size. if nat_lt (cell.offset + places) size then Some (cell_of cell.object (cell.offset + places)) else None) (size_at objects cell.object)

-- where one operation leads from the cell, or the cell that must be told first
abbrev pub walked : List ShownObject → List ShownCell → Op → Cell → Result (Option Cell) Cell
walked objects cells Deref cell = followed objects cells cell
walked objects cells (Off places) cell = Ok (moved objects places cell)

-- the operation, where there is a cell
abbrev pub walked_on : List ShownObject → List ShownCell → Op → Result (Option Cell) Cell → Result (Option Cell) Cell
walked_on objects cells op (Err cell) = Err cell
walked_on objects cells op (Ok None) = Ok None
walked_on objects cells op (Ok (Some cell)) = walked objects cells op cell

-- all operations in order
abbrev pub traced : List ShownObject → List ShownCell → List Op → Result (Option Cell) Cell → Result (Option Cell) Cell
traced objects cells [] start = start
traced objects cells (op ∷ ops) start = traced objects cells ops (walked_on objects cells op start)

-- where an evaluation begins
abbrev pub base_cell : List ShownValue → Base → Option Cell
base_cell registers (Reg register) = option_and_then address_of (slice_get registers register)
base_cell registers (Global global) = Some (cell_of global 0)

-- the leaf of a cell, under the number of its object
abbrev pub leaf : List ShownObject → Cell → Option Node
leaf objects cell = option_map (λ (o : ShownObject). Leaf (cell_of o.number cell.offset) o.class) (slice_get objects cell.object)

-- the leaf of the cell at which an evaluation ends, none where it leads nowhere; or the cell that must be told first
abbrev pub leaf_on : List ShownObject → Result (Option Cell) Cell → Result (Option Node) Cell
leaf_on objects (Err cell) = Err cell
leaf_on objects (Ok None) = Ok None
leaf_on objects (Ok (Some cell)) = Ok (leaf objects cell)

-- a lock's own node
abbrev pub node_of : List ShownValue → List ShownObject → List ShownCell → Lock → Result (Option Node) Cell
node_of registers objects cells (lock.Root effect) = Ok (Some Root)
node_of registers objects cells (lock.Class class effect) = Ok (Some (Class class))
node_of registers objects cells (lock.Expr e effect) = leaf_on objects (traced objects cells e.path (Ok (base_cell registers e.base)))

-- what a lock on the node asks, added to the words so far
abbrev pub added : Effect → Result (Option Node) Cell → Result Request Cell → Result Request Cell
added effect node (Err cell) = Err cell
added effect (Err cell) (Ok words) = Err cell
added effect (Ok None) (Ok words) = Ok words
added effect (Ok (Some node)) (Ok words) = Ok (placed_all words (asks_at effect node))

-- the words of all locks
abbrev pub gathered : List ShownValue → List ShownObject → List ShownCell → List Lock → Result Request Cell → Result Request Cell
gathered registers objects cells [] words = words
gathered registers objects cells (l ∷ ls) words =
    gathered registers objects cells ls (added (effect_of l) (node_of registers objects cells l) words)

-- What a section asks for at its entry: of each lock its node and the nodes above, and of a list of locks at each
-- node the join of what its locks ask there. The modes for the nodes above are those of J. Gray, R. Lorie, G. Putzolu,
-- I. Traiger, "Granularity of Locks and Degrees of Consistency in a Shared Data Base" (1976); see docs/LOCKS.md, "Requests".
use Rattle.std.specs.Prelude.{◌≡◌, ◌<◌, ◌⊎◌, ℕ, List, [], ◌∷◌, ◌++◌, Option, None, Some, slice_get, unwrap_or, if◌then◌else◌}
use Rattle.std.specs.Option.{option_map_or}
use Rattle.asl_code.specs.declared.value.Value.{Value}
use Rattle.asl_code.specs.declared.value.Cell.{Cell}
use Rattle.asl_code.specs.declared.value.Effect.{Effect}
use Rattle.asl_code.specs.declared.value.Effect.TheVariants.{Read, Write}
use Rattle.asl_code.specs.declared.image.Image.{Image}
use Rattle.asl_code.specs.declared.lock.Lock.{Lock}
use Rattle.asl_code.specs.declared.lock.Lock.TheVariants as lock
use Rattle.asl_mode_lanes.specs.declared.mode.Mode.{Mode}
use Rattle.asl_mode_lanes.specs.declared.mode.Mode.TheVariants.{IS, IX}
use Rattle.asl_mode_lanes.specs.Mode.{AtMost, join_of}
use Rattle.asl_lock_forest.specs.declared.node.Node.{Node}
use Rattle.asl_lock_forest.specs.declared.node.Node.TheVariants.{Root, Class, Leaf}
use Rattle.asl_lock_forest.specs.Node.{same_node}
use Rattle.asl_lock_forest.specs.Holding.{Request, asked, covering_mode}
use Rattle.asl_expression.specs.Expression.{Seen, cell_denoted}
use Rattle.asl_machine.specs.State.{Object, cell_at, size_of, class_of}

-- the heap that evaluations see
abbrev pub heap_of : List Object → Seen
heap_of objects = record { cell = cell_at objects; size = size_of objects }

-- the mode that a lock asks at each node above its own
abbrev pub upper_mode : Effect → Mode
upper_mode Read = IS
upper_mode Write = IX

-- the asks of a lock on a cell of an object of the class: at its own node the mode that covers the cell
abbrev pub leaf_asks : Cell → Effect → ℕ → Request
leaf_asks cell effect class =
    (Root, upper_mode effect) ∷ (Class class, upper_mode effect) ∷ (Leaf cell class, covering_mode effect) ∷ []

-- the asks of a lock on the cell that an expression denotes: none where it denotes none
abbrev pub cell_asks : List Object → Effect → Option Cell → Request
cell_asks objects effect None = []
cell_asks objects effect (Some cell) = option_map_or (leaf_asks cell effect) (class_of objects cell.object) []

-- the asks of a lock
abbrev pub asks_of : List Object → List Value → Lock → Request
asks_of objects regs (lock.Root effect) = (Root, covering_mode effect) ∷ []
asks_of objects regs (lock.Class class effect) = (Root, upper_mode effect) ∷ (Class class, covering_mode effect) ∷ []
asks_of objects regs (lock.Expr expr effect) = cell_asks objects effect (cell_denoted (heap_of objects) regs expr)

-- the asks of all locks of a list
abbrev pub all_asks : List Object → List Value → List Lock → Request
all_asks objects regs [] = []
all_asks objects regs (l ∷ ls) = asks_of objects regs l ++ all_asks objects regs ls

-- the request with one more ask, which joins what is asked at its node already
abbrev pub joined_with : Request → Node → Mode → Request
joined_with [] node mode = (node, mode) ∷ []
joined_with (ask ∷ others) node mode =
    if same_node ask.0 node then (ask.0, join_of ask.1 mode) ∷ others else ask ∷ joined_with others node mode

-- the request with more asks, one after the other
abbrev pub joined_all : Request → Request → Request
joined_all request [] = request
joined_all request (ask ∷ asks) = joined_all (joined_with request ask.0 ask.1) asks

-- the request of a lock list in these objects and registers; the law requests_are_least says which map it is
abbrev pub request_of : List Object → List Value → List Lock → Request
request_of objects regs locks = joined_all [] (all_asks objects regs locks)

-- some ask at the node is for this mode
abbrev pub IsAsk : Request → Node → Mode → Type 0
IsAsk [] node mode = ⊥
IsAsk (ask ∷ asks) node mode = ((ask.0 ≡ node) × (ask.1 ≡ mode)) ⊎ IsAsk asks node mode

-- the request is the least map from nodes to modes that is at least every ask
pub record IsLeast (asks request : Request) : Type 0 where
  pub enough : (node : Node) (mode : Mode) → IsAsk asks node mode → AtMost mode (asked request node)
  pub least : (map : Node → Mode) → ((node : Node) (mode : Mode) → IsAsk asks node mode → AtMost mode (map node)) → (node : Node) → AtMost (asked request node) (map node)

-- the class that a lock names, if it names one, is below the count
abbrev pub LockOfClass : ℕ → Lock → Type 0
LockOfClass classes (lock.Root effect) = Unit {0}
LockOfClass classes (lock.Class class effect) = class < classes
LockOfClass classes (lock.Expr expr effect) = Unit {0}

-- the locks of the list of this number
abbrev pub locks_of : Image → ℕ → List Lock
locks_of image list = unwrap_or (slice_get image.lists list) []

-- the cells of objects of the class that a lock is on: all of them, those of its own class, or the one that its
-- expression denotes
abbrev pub IsOn : List Object → List Value → Lock → Cell → ℕ → Type 0
IsOn objects regs (lock.Root effect) cell class = Unit {0}
IsOn objects regs (lock.Class own effect) cell class = own ≡ class
IsOn objects regs (lock.Expr expr effect) cell class =
    (cell_denoted (heap_of objects) regs expr ≡ Some cell) × (class_of objects cell.object ≡ Some class)

-- Machinery of private functions: what is said of each node (src/nodes.rt), and which nodes a list names (src/next_number.rt).
use Rattle.std.specs.Prelude.{ℕ, ◌≡◌, ◌<◌, ◌≤◌, ◌==◌, List, [], Option, None, Some, if◌then◌else◌}
use Rattle.asl_mode_lanes.specs.declared.mode.Mode.TheVariants.{NL}
use Rattle.asl_lock_forest.specs.declared.node.Node.{Node}
use Rattle.asl_lock_forest.specs.declared.node.Node.TheVariants.{Class, Leaf}
use Rattle.asl_lock_forest.specs.Holding.{Request, asked}
use Rattle.asl_machine.specs.State.{State}
use Rattle.asl_show.specs.declared.next_number.Numbers.{Numbers}
use Rattle.asl_show.specs.declared.next_number.Numbers.TheVariants.{Classes, Objects, Cells}
use Rattle.asl_show.specs.declared.nodes.About.{About}
use Rattle.asl_show.specs.declared.nodes.About.TheVariants.{Held, Asked, Clashes}
use Rattle.asl_show.specs.Nodes.{ask_line, clash_lines, held_line}

-- what is said of a node
abbrev pub line_about : State → ℕ → About → Node → List ℕ
line_about s t Held node = held_line s t node
line_about s t (Asked request) node = ask_line t request.now node
line_about s t (Clashes request) node = clash_lines s t request.now node

-- of a node that the list does not name, nothing is said
abbrev pub IsSilent : (Node → List ℕ) → Request → Type 0
IsSilent line nodes = (node : Node) → asked nodes node ≡ NL → line node ≡ []

-- the number of a node's class, of a leaf's object, or of a leaf of the object
abbrev pub number_in : Numbers → Node → Option ℕ
number_in Classes (Class class) = Some class
number_in Objects (Leaf cell class) = Some cell.object
number_in (Cells object) (Leaf cell class) = if cell.object == object then Some cell.offset else None
number_in numbers node = None

-- the node has no such number from the one on and before the other
abbrev pub IsNotIn : Numbers → Node → ℕ → ℕ → Type 0
IsNotIn numbers node from to = (n : ℕ) → number_in numbers node ≡ Some n → from ≤ n → n < to → ⊥

-- the list names no node that has such a number from the one on and before the other
abbrev pub NamesNone : Request → Numbers → ℕ → ℕ → Type 0
NamesNone nodes numbers from to = (node : Node) (n : ℕ) → number_in numbers node ≡ Some n → from ≤ n → n < to → asked nodes node ≡ NL

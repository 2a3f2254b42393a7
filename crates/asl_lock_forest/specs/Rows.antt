-- Machinery of the proofs, not of the promise: the rows of codes as what each thread holds at each node
-- (docs/LOCKS.md, "Lawful holdings").
use Rattle.std.specs.Prelude.{ℕ, ◌≡◌, ◌≢◌, false, List, length, slice_index_or, slice_set}
use Rattle.asl_mode_lanes.specs.declared.mode.Mode.{Mode}
use Rattle.asl_mode_lanes.specs.declared.mode.Mode.TheVariants.{NL}
use Rattle.asl_mode_lanes.specs.Mode.{AreCompatible, is_compatible}
use Rattle.asl_mode_lanes.specs.Row.{mode_at}
use Rattle.asl_lock_forest.specs.declared.node.Node.{Node}
use Rattle.asl_lock_forest.specs.declared.node.Node.TheVariants.{Root, Class, Leaf}
use Rattle.asl_lock_forest.specs.declared.rows.Rows.{Rows}
use Rattle.asl_lock_forest.specs.Leaves.{zeros, leaf_row, IsKept, IsWhole}
use Rattle.asl_lock_forest.specs.Holding.{Request, asked}

-- the row of a node
abbrev pub row_of : Rows → Node → List ℕ
row_of rows Root = rows.root
row_of rows (Class class) = slice_index_or rows.classes.items class zeros
row_of rows (Leaf cell class) = leaf_row rows.leaves (cell.object, cell.offset, class)

-- each row has a code for each thread, and the leaves' rows are in order
pub record AreKept (rows : Rows) : Type 0 where
  pub each : (node : Node) → IsWhole (row_of rows node)
  pub leaves : IsKept rows.leaves

-- no other thread keeps this one from the mode at the node
abbrev pub IsFree : Rows → ℕ → Node → Mode → Type 0
IsFree rows thread node want = (other : ℕ) → other ≢ thread → AreCompatible (mode_at (row_of rows node) other) want

-- some other thread keeps this one from the mode at the node
abbrev pub Blocks : Rows → ℕ → Node → Mode → Type 0
Blocks rows thread node want = (other : ℕ) × (other ≢ thread) × (is_compatible (mode_at (row_of rows node) other) want ≡ false)

-- the thread's code at the node is now this one, and every other code is as it was
pub record Sets (old : Rows) (thread : ℕ) (node : Node) (code : ℕ) (new : Rows) : Type 0 where
  pub kept : AreKept new
  pub classes : length new.classes.items ≡ length old.classes.items
  pub changed : row_of new node ≡ slice_set (row_of old node) thread code
  pub others : (other : Node) → other ≢ node → row_of new other ≡ row_of old other

-- the thread holds what it asks at the nodes that it names, and every other mode is as it was
pub record Grants (old : Rows) (thread : ℕ) (request : Request) (new : Rows) : Type 0 where
  pub kept : AreKept new
  pub classes : length new.classes.items ≡ length old.classes.items
  pub own : (node : Node) → mode_at (row_of old node) thread ≡ NL → mode_at (row_of new node) thread ≡ asked request node
  pub others : (other : ℕ) (node : Node) → other ≢ thread → mode_at (row_of new node) other ≡ mode_at (row_of old node) other

-- the thread holds nothing at the nodes that are named, and every other mode is as it was
pub record Clears (old : Rows) (thread : ℕ) (named : Request) (new : Rows) : Type 0 where
  pub kept : AreKept new
  pub classes : length new.classes.items ≡ length old.classes.items
  pub own : (node : Node) → mode_at (row_of old node) thread ≡ asked named node → mode_at (row_of new node) thread ≡ NL
  pub others : (other : ℕ) (node : Node) → other ≢ thread → mode_at (row_of new node) other ≡ mode_at (row_of old node) other

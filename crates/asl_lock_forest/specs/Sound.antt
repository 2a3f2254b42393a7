-- Machinery of the proofs, not of the promise: what the fields of every forest keep (docs/LOCKS.md, "Lawful
-- holdings").
use Rattle.std.specs.Prelude.{ℕ, ◌≡◌, ◌≤◌, List, [], length, slice_index_or}
use Rattle.asl_mode_lanes.specs.Row.{mode_at}
use Rattle.asl_lock_forest.specs.declared.node.Node.{Node}
use Rattle.asl_lock_forest.specs.declared.rows.Rows.{Rows}
use Rattle.asl_lock_forest.specs.Held.{IsForest}
use Rattle.asl_lock_forest.specs.Holding.{Request, asked}
use Rattle.asl_lock_forest.specs.Lists.{holding_of}
use Rattle.asl_lock_forest.specs.Leaves.{width}
use Rattle.asl_lock_forest.specs.Rows.{row_of, AreKept}

-- the rows tell what the lists do
pub record IsSound (classes threads : ℕ) (rows : Rows) (lists : List Request) : Type 0 where
  pub forest : IsForest (record { classes = classes; threads = threads; holding = holding_of lists })
  pub kept : AreKept rows
  pub classes_there : length rows.classes.items ≡ classes
  pub lists_there : length lists ≡ threads
  pub few : threads ≤ width
  pub told : (thread : ℕ) (node : Node) → mode_at (row_of rows node) thread ≡ asked (slice_index_or lists thread []) node

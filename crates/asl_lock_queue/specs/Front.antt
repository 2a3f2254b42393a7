-- Machinery of the proofs, not of the promise: the front of a rising request (docs/LOCKS.md, "Requests").
use Rattle.std.specs.Prelude.{Bool, true, not, [], ◌∷◌, if◌then◌else◌}
use Rattle.asl_mode_lanes.specs.declared.mode.Mode.{Mode}
use Rattle.asl_mode_lanes.specs.declared.mode.Mode.TheVariants.{NL}
use Rattle.asl_lock_forest.specs.declared.node.Node.{Node}
use Rattle.asl_lock_forest.specs.Node.{same_node}
use Rattle.asl_lock_forest.specs.Holding.{Request}
use Rattle.asl_lock_queue.specs.Order.{is_below}

-- the mode that is asked first, where that is at the node
abbrev pub first_mode : Request → Node → Mode
first_mode [] node = NL
first_mode (ask ∷ others) node = if same_node ask.0 node then ask.1 else NL

-- whether the first node is not below this one
abbrev pub starts_from : Node → Request → Bool
starts_from node [] = true
starts_from node (ask ∷ others) = not (is_below ask.0 node)

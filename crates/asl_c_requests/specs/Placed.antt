-- Machinery of the proofs, not of the promise: words that rise, with one more ask in its place.
use Rattle.std.specs.Prelude.{ℕ, ◌+◌, Bool, false, List, [], ◌∷◌, slice_get, if◌then◌else◌}
use Rattle.std.specs.Option.{option_map_or}
use Rattle.asl_mode_lanes.specs.declared.mode.Mode.{Mode}
use Rattle.asl_mode_lanes.specs.Mode.{join_of}
use Rattle.asl_lock_forest.specs.declared.node.Node.{Node}
use Rattle.asl_lock_forest.specs.Node.{same_node}
use Rattle.asl_lock_forest.specs.Holding.{Request}
use Rattle.asl_lock_queue.specs.Order.{is_below}
use Rattle.asl_lock_queue.specs.Asks.{node_of}
use Rattle.asl_lock_queue.specs.declared.ask.Ask.{Ask}

-- how many of the words come before the node
abbrev pub place_of : Request → Node → ℕ
place_of [] node = 0
place_of (ask ∷ others) node = if is_below ask.0 node then 1 + place_of others node else 0

-- whether the word at this place is of the node
abbrev pub named_at : List Ask → ℕ → Node → Bool
named_at asks place node = option_map_or (λ (ask : Ask). same_node (node_of ask) node) (slice_get asks place) false

-- the words with one more ask, which joins what is asked at its node already
abbrev pub placed : Request → Node → Mode → Request
placed [] node mode = (node, mode) ∷ []
placed (ask ∷ others) node mode =
    if is_below ask.0 node then ask ∷ placed others node mode
    else if same_node ask.0 node then (ask.0, join_of ask.1 mode) ∷ others else (node, mode) ∷ ask ∷ others

-- the words with more asks, one after the other
abbrev pub placed_all : Request → Request → Request
placed_all words [] = words
placed_all words (ask ∷ asks) = placed_all (placed words ask.0 ask.1) asks

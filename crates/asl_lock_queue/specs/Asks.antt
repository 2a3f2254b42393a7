-- What the numbers that C passes mean.
use Rattle.std.specs.Prelude.{ℕ, ◌==◌, nat_lt, if◌then◌else◌, Bool, true, false, List}
use Rattle.std.specs.List.{list_all}
use Rattle.asl_code.specs.declared.value.Effect.{Effect}
use Rattle.asl_code.specs.declared.value.Effect.TheVariants.{Read, Write}
use Rattle.asl_mode_lanes.specs.declared.mode.Mode.{Mode}
use Rattle.asl_mode_lanes.specs.Row.{mode_of}
use Rattle.asl_lock_forest.specs.declared.node.Node.{Node}
use Rattle.asl_lock_forest.specs.declared.node.Node.TheVariants.{Root, Class, Leaf}
use Rattle.asl_lock_queue.specs.declared.ask.Ask.{Ask}

-- whether a kind of node has this number
abbrev pub is_kind : ℕ → Bool
is_kind kind = nat_lt kind 3

-- whether each kind is one
abbrev pub has_kinds : List Ask → Bool
has_kinds asks = list_all (λ (ask : Ask). is_kind ask.kind) asks

-- the node: kind 0 is the root, 1 a class, 2 the leaf of a cell
abbrev pub node_of : Ask → Node
node_of ask = if ask.kind == 0 then Root else if ask.kind == 1 then Class ask.class else Leaf (record { object = ask.object; offset = ask.offset }) ask.class

-- the node and the mode that has the code
abbrev pub ask_of : Ask → Node × Mode
ask_of ask = (node_of ask, mode_of ask.mode)

-- what an access does
abbrev pub effect_of : Bool → Effect
effect_of true = Write
effect_of false = Read

-- The order in which a rising request names its nodes: the root, the classes by their numbers, the leaves by class,
-- object and offset (docs/LOCKS.md, "Requests").
use Rattle.std.specs.Prelude.{Bool, true, false, ◌&&◌, ◌||◌, ◌==◌, nat_lt, [], ◌∷◌, Option, None, Some}
use Rattle.asl_lock_forest.specs.declared.node.Node.{Node}
use Rattle.asl_lock_forest.specs.declared.node.Node.TheVariants.{Root, Class, Leaf}
use Rattle.asl_lock_forest.specs.Holding.{Request}

-- whether the first node comes before the second
abbrev pub is_below : Node → Node → Bool
is_below Root Root = false
is_below Root (Class d) = true
is_below Root (Leaf y d) = true
is_below (Class c) Root = false
is_below (Class c) (Class d) = nat_lt c d
is_below (Class c) (Leaf y d) = true
is_below (Leaf x c) Root = false
is_below (Leaf x c) (Class d) = false
is_below (Leaf x c) (Leaf y d) =
    nat_lt c d || (c == d && (nat_lt x.object y.object || (x.object == y.object && nat_lt x.offset y.offset)))

-- whether the node comes after the last one, if there is one
abbrev pub is_after : Option Node → Node → Bool
is_after None node = true
is_after (Some last) node = is_below last node

-- whether each node of the request comes after the one before it, and the first after the last one, if there is one
abbrev pub rises_after : Option Node → Request → Bool
rises_after last [] = true
rises_after last (ask ∷ others) = is_after last ask.0 && rises_after (Some ask.0) others

-- whether each node of the request comes after the one before it
abbrev pub is_rising : Request → Bool
is_rising request = rises_after None request

-- what is listed and what is left are all
use Rattle.std.proofs.Common.{◌≡◌, ◌++◌, drop, map}
use Rattle.asl_syntax.specs.Tree.{globals_of}
use Rattle.asl_syntax.specs.View.{item_of}
use Rattle.asl_map.proofs.map_names.global_names.Given as goal

abbrev pub invariant-loop-item : goal.invariant-loop-item
invariant-loop-item l =
    l.names.items ++ globals_of (map item_of (drop l.item-index l.items)) ≡ globals_of (map item_of l.items)

-- what is listed and what is left are all
use Rattle.std.proofs.Common.{◌≡◌, ◌++◌, drop, map}
use Rattle.asl_syntax.specs.Tree.{functions_of}
use Rattle.asl_syntax.specs.View.{item_of}
use Rattle.asl_lower.specs.Names.{locals_of}
use Rattle.asl_map.proofs.map_names.register_names.Given as goal

abbrev pub invariant-loop-item : goal.invariant-loop-item
invariant-loop-item l =
    map (λ r. r.items) l.registers.items ++ map locals_of (functions_of (map item_of (drop l.item-index l.items))) ≡ map locals_of (functions_of (map item_of l.items))

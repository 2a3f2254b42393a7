-- the functions so far and those left are all
use Rattle.std.proofs.Common.{◌≡◌, ◌+◌, ◌≤◌, length, map, drop}
use Rattle.asl_syntax.specs.View.{item_of}
use Rattle.asl_syntax.specs.Tree.{functions_of}
use Rattle.asl_lower.proofs.outside.count_functions.Given as goal

abbrev pub invariant-loop-item : goal.invariant-loop-item
invariant-loop-item l =
    (l.count + length (functions_of (map item_of (drop l.item-index l.items))) ≡ length (functions_of (map item_of l.items)))
    × (l.count ≤ l.item-index)

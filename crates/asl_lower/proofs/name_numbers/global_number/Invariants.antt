-- the number so far and the number in what is left are the number in all
use Rattle.std.proofs.Common.{◌≡◌, ◌≤◌, ◌+◌, length, map, drop}
use Rattle.asl_syntax.specs.Tree.{globals_of}
use Rattle.asl_lower.specs.Names.{number_of}
use Rattle.asl_syntax.specs.View.{item_of}
use Rattle.asl_lower.proofs.name_numbers.global_number.Given as goal

abbrev pub invariant-loop-item : goal.invariant-loop-item
invariant-loop-item l =
    (l.number + number_of (globals_of (map item_of (drop l.item-index l.items))) l.name ≡ number_of (globals_of (map item_of l.items)) l.name)
    × (l.number + length (globals_of (map item_of (drop l.item-index l.items))) ≡ length (globals_of (map item_of l.items)))
    × (l.number ≤ l.item-index)

-- the answer for the functions left is the answer for all
use Rattle.std.proofs.Common.{◌≡◌, ◌+◌, length, map, drop}
use Rattle.asl_syntax.specs.View.{item_of}
use Rattle.asl_syntax.specs.Tree.{functions_of}
use Rattle.asl_lower.specs.Refused.{first_crowded}
use Rattle.asl_lower.proofs.functions.first_crowded.Given as goal

abbrev pub invariant-loop-item : goal.invariant-loop-item
invariant-loop-item l =
    (first_crowded l.number (functions_of (map item_of (drop l.item-index l.items))) ≡ first_crowded 0 (functions_of (map item_of l.items)))
    × (l.number + length (functions_of (map item_of (drop l.item-index l.items))) ≡ length (functions_of (map item_of l.items)))

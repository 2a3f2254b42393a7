-- the globals so far and those left are all
use Rattle.std.proofs.Common.{◌≡◌, ◌+◌, ◌≤◌, length, map, drop}
use Rattle.asl_syntax.specs.View.{item_of}
use Rattle.asl_syntax.specs.Tree.{globals_of}
use Rattle.asl_lower.proofs.code_draft.count_globals.Given as goal

abbrev pub invariant-loop-item : goal.invariant-loop-item
invariant-loop-item l =
    (l.count + length (globals_of (map item_of (drop l.item-index l.items))) ≡ length (globals_of (map item_of l.items)))
    × (l.count ≤ l.item-index)

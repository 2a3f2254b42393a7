-- what was passed so far, and the functions left
use Rattle.std.proofs.Common.{◌≡◌, ◌≤◌, map, drop}
use Rattle.asl_syntax.specs.View.{item_of}
use Rattle.asl_syntax.specs.Tree.{functions_of}
use Rattle.asl_diagnose_text.specs.AccessView.{after_functions, room}
use Rattle.asl_diagnose_text.proofs.AccessCounts.{start}
use Rattle.asl_diagnose_text.proofs.accesses.accesses_before.Given as goal

abbrev pub invariant-loop-item : goal.invariant-loop-item
invariant-loop-item l =
    (after_functions l.passed (functions_of (map item_of (drop l.item-index l.items))) ≡ after_functions (start l.pc) (functions_of (map item_of l.items)))
    × (room l.passed ≤ l.pc)

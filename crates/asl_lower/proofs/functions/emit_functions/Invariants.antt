-- the code so far and that of the functions left are the code of all, and the table likewise
use Rattle.std.proofs.Common.{◌≡◌, ◌+◌, ◌++◌, None, length, map, drop}
use Rattle.asl_syntax.specs.View.{item_of}
use Rattle.asl_syntax.specs.Tree.{functions_of}
use Rattle.asl_lower.specs.Place.{past_functions}
use Rattle.asl_lower.specs.Layout.{functions_code, functions_sections, functions_table}
use Rattle.asl_lower.specs.OutputView.{place_of}
use Rattle.asl_lower.specs.Refused.{first_crowded}
use Rattle.asl_lower.proofs.functions.emit_functions.Given as goal

abbrev pub invariant-loop-item : goal.invariant-loop-item
invariant-loop-item l =
    (first_crowded l.number (functions_of (map item_of (drop l.item-index l.items))) ≡ None)
    × (l.number + length (functions_of (map item_of (drop l.item-index l.items))) ≡ length (functions_of (map item_of l.items)))
    × (l.out.code.items ++ functions_code (map item_of l.items) l.number (functions_of (map item_of (drop l.item-index l.items))) (place_of l.out) ≡ l.fn.out.code.items ++ functions_code (map item_of l.items) 0 (functions_of (map item_of l.items)) (place_of l.fn.out))
    × (l.out.sections.items ++ functions_sections (map item_of l.items) l.number (functions_of (map item_of (drop l.item-index l.items))) (place_of l.out) ≡ l.fn.out.sections.items ++ functions_sections (map item_of l.items) 0 (functions_of (map item_of l.items)) (place_of l.fn.out))
    × (past_functions (functions_of (map item_of l.items)) (place_of l.fn.out) ≡ past_functions (functions_of (map item_of (drop l.item-index l.items))) (place_of l.out))
    × (l.table.items ++ functions_table (functions_of (map item_of (drop l.item-index l.items))) (place_of l.out) ≡ functions_table (functions_of (map item_of l.items)) (place_of l.fn.out))

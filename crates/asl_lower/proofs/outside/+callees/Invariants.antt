-- whoever marks what the statements left call has marked what all of them call
use Rattle.std.proofs.Common.{Bool, List, map, drop}
use Rattle.asl_syntax.specs.View.{item_of, block_of}
use Rattle.asl_syntax.specs.Tree.{functions_of}
use Rattle.asl_lower.specs.Names.{function_names}
use Rattle.asl_lower.specs.Outside.{block_callees, MarksThese}
use Rattle.asl_lower.proofs.outside.+callees.Given as goal

abbrev pub invariant-mark_block-loop-statement : goal.invariant-mark_block-loop-statement
invariant-mark_block-loop-statement l =
    (end : List Bool) → MarksThese (block_callees (function_names (functions_of (map item_of l.items))) (block_of (drop l.statement-index l.block))) l.marks end
    → MarksThese (block_callees (function_names (functions_of (map item_of l.items))) (block_of l.block)) l.fn.marks end

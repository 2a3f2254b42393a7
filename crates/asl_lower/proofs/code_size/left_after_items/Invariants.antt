-- the instructions left so far, and those of the functions left
use Rattle.std.proofs.Common.{◌≡◌, ◌+◌, map, drop}
use Rattle.asl_syntax.specs.View.{item_of}
use Rattle.asl_syntax.specs.Tree.{functions_of}
use Rattle.asl_lower.specs.Size.{functions_size}
use Rattle.asl_lower.proofs.code_size.left_after_items.Given as goal

abbrev pub invariant-loop-item : goal.invariant-loop-item
invariant-loop-item l =
    functions_size (functions_of (map item_of l.items)) + l.left ≡ l.most + functions_size (functions_of (map item_of (drop l.item-index l.items)))

-- what is written and what is left are the items
use Rattle.std.proofs.Common.{◌≡◌, ◌++◌, drop, map}
use Rattle.asl_syntax.specs.View.{item_of}
use Rattle.asl_syntax.specs.Pieces.{items_bytes}
use Rattle.asl_syntax.proofs.printer.push_items.Given as goal

abbrev pub invariant-loop-item : goal.invariant-loop-item
invariant-loop-item l =
    l.out.items ++ items_bytes (map item_of (drop l.item-index l.items)) ≡ l.fn.out.items ++ items_bytes (map item_of l.items)

-- what is listed and what is left are all
use Rattle.std.proofs.Common.{◌≡◌, ◌++◌, drop, map}
use Rattle.asl_syntax.specs.Tree.{globals_of}
use Rattle.asl_syntax.specs.View.{item_of}
use Rattle.asl_lower.specs.NamesView.{names_of}
use Rattle.asl_lower.proofs.item_numbers.list_globals.Given as goal

abbrev pub invariant-loop-item : goal.invariant-loop-item
invariant-loop-item l =
    names_of l.names.items ++ globals_of (map item_of (drop l.item-index l.items)) ≡ globals_of (map item_of l.items)

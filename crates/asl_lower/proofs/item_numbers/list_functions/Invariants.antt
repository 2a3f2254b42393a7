-- what is listed and what is left are all
use Rattle.std.proofs.Common.{◌≡◌, ◌++◌, drop, map}
use Rattle.asl_syntax.specs.Tree.{functions_of}
use Rattle.asl_lower.specs.Names.{function_names}
use Rattle.asl_syntax.specs.View.{item_of}
use Rattle.asl_lower.specs.NamesView.{names_of}
use Rattle.asl_lower.proofs.item_numbers.list_functions.Given as goal

abbrev pub invariant-loop-item : goal.invariant-loop-item
invariant-loop-item l =
    names_of l.names.items ++ function_names (functions_of (map item_of (drop l.item-index l.items))) ≡ function_names (functions_of (map item_of l.items))

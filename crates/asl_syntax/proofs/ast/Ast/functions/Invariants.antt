-- what is listed and what is left are all
use Rattle.std.proofs.Common.{◌≡◌, ◌++◌, drop, map}
use Rattle.asl_syntax.specs.Tree.{functions_of}
use Rattle.asl_syntax.specs.View.{item_of, function_of}
use Rattle.asl_syntax.proofs.ast.Ast.functions.Given as goal

abbrev pub invariant-loop-item : goal.invariant-loop-item
invariant-loop-item l =
    map (λ f. function_of f.now) l.functions.items ++ functions_of (map item_of (drop l.item-index l.item-items)) ≡ functions_of (map item_of l.item-items)

-- what is listed and what is left are all
use Rattle.std.proofs.Common.{◌≡◌, ◌++◌, drop, map}
use Rattle.asl_syntax.specs.Tree.{globals_of}
use Rattle.asl_syntax.specs.View.{item_of}
use Rattle.asl_syntax.proofs.ast.Ast.globals.Given as goal

abbrev pub invariant-loop-item : goal.invariant-loop-item
invariant-loop-item l =
    map (λ x. x.now) l.globals.items ++ globals_of (map item_of (drop l.item-index l.item-items)) ≡ globals_of (map item_of l.item-items)

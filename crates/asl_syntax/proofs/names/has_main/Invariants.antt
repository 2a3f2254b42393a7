-- what is left gives the answer
use Rattle.std.proofs.Common.{◌≡◌, drop, map}
use Rattle.asl_syntax.specs.View.{item_of}
use Rattle.asl_syntax.specs.Rules.{has_main}
use Rattle.asl_syntax.proofs.names.has_main.Given as goal

abbrev pub invariant-loop-item : goal.invariant-loop-item
invariant-loop-item l = has_main (map item_of (drop l.item-index l.items)) ≡ has_main (map item_of l.items)

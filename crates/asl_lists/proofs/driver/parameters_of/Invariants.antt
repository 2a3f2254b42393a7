-- the items that are left count as all do
use Rattle.std.proofs.Common.{◌≡◌, map, drop}
use Rattle.asl_syntax.specs.View.{item_of}
use Rattle.asl_syntax.specs.Rules.{parameter_counts}
use Rattle.asl_lists.proofs.driver.parameters_of.Given as goal

abbrev pub invariant-loop-item : goal.invariant-loop-item
invariant-loop-item l =
    parameter_counts (map item_of (drop l.item-index l.items)) l.name ≡ parameter_counts (map item_of l.items) l.name

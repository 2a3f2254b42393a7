-- the classes so far
use Rattle.std.proofs.Common.{map}
use Rattle.serde_json.specs.View.{view}
use Rattle.asl_lists.proofs.Made.{Classed}
use Rattle.asl_lists.proofs.class_values.class_values.Given as goal

abbrev pub invariant-loop-class : goal.invariant-loop-class
invariant-loop-class l = Classed l.facts l.class l.count (map view l.values.items)

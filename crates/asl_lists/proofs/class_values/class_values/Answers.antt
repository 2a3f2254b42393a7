use Rattle.std.proofs.Common.{map, ap, arith}
use Rattle.serde_json.specs.View.{view}
use Rattle.asl_lists.proofs.Made.{none_classed, more_classed, all_classed}
use Rattle.asl_lists.proofs.class_values.class_values.Goals as goal

pub loop-class-init : goal.loop-class-init
loop-class-init c = none_classed _ _ _ (ap (map view) c.new-values.ensures.items)

pub loop-class-preserved : goal.loop-class-preserved
loop-class-preserved c = more_classed _ _ _ _ _ (omega arith) c.in_ok-push_class.ensures c.loop-class.invariant

pub returns : goal.returns
returns c = all_classed _ _ _ _ (omega arith) c.loop-class.invariant

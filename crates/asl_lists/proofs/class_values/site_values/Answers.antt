use Rattle.std.proofs.Common.{map, ap, refl, arith}
use Rattle.serde_json.specs.View.{view}
use Rattle.asl_lists.proofs.Made.{none_made, more_made, all_made}
use Rattle.asl_lists.proofs.class_values.site_values.Goals as goal

pub loop-number-init : goal.loop-number-init
loop-number-init c = none_made _ _ _ _ (ap (map view) c.new-values.ensures.items)

pub loop-number-preserved : goal.loop-number-preserved
loop-number-preserved c = more_made _ _ _ _ _ _ _ _ c.loop-number-test.true refl c.in_ok-push_site.ensures c.loop-number.invariant

pub returns : goal.returns
returns c = all_made _ _ _ _ _ (omega arith) c.loop-number.invariant

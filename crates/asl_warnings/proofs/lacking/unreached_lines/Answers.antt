use Rattle.std.proofs.Common.{arith}
use Rattle.asl_class_text.proofs.Made.{none_made, more_made, all_made}
use Rattle.asl_warnings.proofs.lacking.unreached_lines.Goals as goal

pub loop-number-init : goal.loop-number-init
loop-number-init c = none_made _ _ _ _ c.new-text.ensures.bytes

pub loop-number-preserved : goal.loop-number-preserved
loop-number-preserved c = more_made _ _ _ c.index-functions-number.result c.index-functions-number.result _ _ _ (omega arith) c.index-functions-number.is c.in_ok-push_unreached.ensures c.loop-number.invariant

pub returns : goal.returns
returns c = all_made _ _ _ _ _ (omega arith) c.loop-number.invariant

use Rattle.std.proofs.Common.{refl, arith}
use Rattle.asl_lists.proofs.Made.{none_made, more_same, all_made}
use Rattle.asl_lists.proofs.driver.push_calls.Goals as goal

pub loop-number-init : goal.loop-number-init
loop-number-init c = none_made _ _ _ _ refl

pub loop-number-preserved : goal.loop-number-preserved
loop-number-preserved c = more_same _ _ _ _ _ _ c.loop-number-test.true c.in_ok-push_call.ensures c.loop-number.invariant

pub returns : goal.returns
returns c = all_made _ _ _ _ _ (omega arith) c.loop-number.invariant

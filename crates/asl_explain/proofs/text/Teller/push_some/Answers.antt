use Rattle.std.proofs.Common.{refl, arith}
use Rattle.asl_class_text.proofs.Made.{none_made, more_made, all_made}
use Rattle.asl_explain.proofs.text.Teller.push_some.Goals as goal

pub loop-number-init : goal.loop-number-init
loop-number-init c = none_made _ _ _ _ refl

pub loop-number-preserved : goal.loop-number-preserved
loop-number-preserved c = more_made _ _ _ _ _ _ _ _ c.loop-number-test.true c.index-list-number.is c.in_ok-push_entry.ensures c.loop-number.invariant

pub returns : goal.returns
returns c = all_made _ _ _ _ _ (omega arith) c.loop-number.invariant

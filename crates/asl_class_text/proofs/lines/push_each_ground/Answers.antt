use Rattle.std.proofs.Common.{arith}
use Rattle.asl_class_text.proofs.Made.{none_flat, more_flat, all_flat}
use Rattle.asl_class_text.proofs.lines.push_each_ground.Goals as goal

pub loop-ground-init : goal.loop-ground-init
loop-ground-init c = none_flat _ _ _

pub loop-ground-preserved : goal.loop-ground-preserved
loop-ground-preserved c = more_flat _ _ _ c.ground-item.result c.ground-item.result _ _ _ c.loop-ground-test.true c.ground-item.is c.in_ok-push_ground.ensures c.loop-ground.invariant

pub returns : goal.returns
returns c = all_flat _ _ _ _ _ (omega arith) c.loop-ground.invariant

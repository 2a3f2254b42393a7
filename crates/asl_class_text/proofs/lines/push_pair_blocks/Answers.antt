use Rattle.std.proofs.Common.{arith}
use Rattle.asl_class_text.proofs.Made.{none_flat, more_flat, all_flat}
use Rattle.asl_class_text.proofs.lines.push_pair_blocks.Goals as goal

pub loop-pair-init : goal.loop-pair-init
loop-pair-init c = none_flat _ _ _

pub loop-pair-preserved : goal.loop-pair-preserved
loop-pair-preserved c = more_flat _ _ _ c.pair-item.result c.pair-item.result _ _ _ c.loop-pair-test.true c.pair-item.is c.in_ok-push_pair_block.ensures c.loop-pair.invariant

pub returns : goal.returns
returns c = all_flat _ _ _ _ _ (omega arith) c.loop-pair.invariant

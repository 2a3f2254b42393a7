use Rattle.std.proofs.Common.{refl, arith}
use Rattle.asl_class_text.proofs.Made.{none_flat, more_flat, all_flat}
use Rattle.asl_class_text.proofs.lines.push_chain.Goals as goal

pub loop-told-init : goal.loop-told-init
loop-told-init c = none_flat _ _ _

pub loop-told-preserved : goal.loop-told-preserved
loop-told-preserved c = more_flat _ _ _ _ _ _ _ _ c.loop-told-test.true refl c.in_ok-push_step.ensures c.loop-told.invariant

pub returns : goal.returns
returns c = all_flat _ _ _ _ _ (omega arith) c.loop-told.invariant

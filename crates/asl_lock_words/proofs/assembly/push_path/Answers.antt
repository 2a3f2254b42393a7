use Rattle.std.proofs.Common.{refl, arith}
use Rattle.asl_lock_words.proofs.Joining.{none_joined, more_joined, all_joined}
use Rattle.asl_lock_words.proofs.assembly.push_path.Goals as goal

pub loop-op-init : goal.loop-op-init
loop-op-init c = none_joined _ _ _

pub loop-op-preserved : goal.loop-op-preserved
loop-op-preserved c = more_joined _ _ _ _ _ _ _ _ c.loop-op-test.true refl c.in_ok-push_op.ensures c.loop-op.invariant

pub returns : goal.returns
returns c = all_joined _ _ _ _ _ (omega arith) c.loop-op.invariant

use Rattle.std.proofs.Common.{refl}
use Rattle.asl_parallel_c.specs.Lists.{ops_text}
use Rattle.asl_parallel_c.proofs.Rows.{item_at, all_done}
use Rattle.asl_parallel_c.proofs.lock.put_ops.Goals as goal

pub loop-op-init : goal.loop-op-init
loop-op-init g c = refl

pub loop-op-preserved : goal.loop-op-preserved
loop-op-preserved g c = item_at ops_text ops_text _ _ c.loop-op.text.items c.put_op.new.text.items c.args.ops.now c.loop-op.op-index _ c.loop-op-test.true c.loop-op.invariant c.in_ok-put_op.ensures.written refl

pub returns-clause-written : goal.returns-clause-written
returns-clause-written g c = all_done ops_text ops_text _ c.loop-op.text.items c.args.ops.now c.loop-op.op-index c.loop-op-test.false refl c.loop-op.invariant

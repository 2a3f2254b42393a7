use Rattle.asl_code.specs.declared.path.Op.{Op}
use Rattle.asl_loader.specs.Bytes.{op_fields, IsOp}
use Rattle.asl_loader.proofs.Writes.{none_written, more_at, all_written}
use Rattle.asl_loader.proofs.image_writing.put_ops.Goals as goal

pub loop-op-init : goal.loop-op-init
loop-op-init c = none_written Op IsOp op_fields c.args.out.now.items

pub loop-op-preserved : goal.loop-op-preserved
loop-op-preserved c = more_at Op IsOp op_fields c.args.out.now.items c.loop-op.out.items c.put_op.new.out.items c.args.ops.now c.loop-op.op-index _ c.loop-op-test.true c.loop-op.invariant c.in_ok-put_op.ensures

pub returns : goal.returns
returns c = all_written Op IsOp op_fields c.args.out.now.items c.loop-op.out.items c.args.ops.now c.loop-op.op-index c.loop-op-test.false c.loop-op.invariant

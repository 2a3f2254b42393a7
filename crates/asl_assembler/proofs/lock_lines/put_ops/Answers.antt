use Rattle.asl_code.specs.declared.path.Op.{Op}
use Rattle.asl_assembler.specs.Writing.{FitsOpWord, op_text}
use Rattle.asl_assembler.proofs.Writes.{none_written, more_at, all_written}
use Rattle.asl_assembler.proofs.lock_lines.put_ops.Goals as goal

pub loop-op-init : goal.loop-op-init
loop-op-init c = none_written Op FitsOpWord op_text c.args.text.now.items

pub loop-op-preserved : goal.loop-op-preserved
loop-op-preserved c = more_at Op FitsOpWord op_text c.args.text.now.items c.loop-op.text.items c.put_op.new.text.items c.args.ops.now c.loop-op.op-index _ c.loop-op-test.true c.loop-op.invariant c.in_ok-put_op.ensures

pub returns : goal.returns
returns c = all_written Op FitsOpWord op_text c.args.text.now.items c.loop-op.text.items c.args.ops.now c.loop-op.op-index c.loop-op-test.false c.loop-op.invariant

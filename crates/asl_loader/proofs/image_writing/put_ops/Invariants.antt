use Rattle.std.proofs.Common.{take}
use Rattle.asl_code.specs.declared.path.Op.{Op}
use Rattle.asl_loader.specs.Bytes.{op_fields, IsOp}
use Rattle.asl_loader.specs.Writing.{WritesEach}
use Rattle.asl_loader.proofs.image_writing.put_ops.Given as goal

abbrev pub invariant-loop-op : goal.invariant-loop-op
invariant-loop-op l = WritesEach Op IsOp op_fields l.initial.out.items l.out.items (take l.op-index l.ops)

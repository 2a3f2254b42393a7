use Rattle.std.proofs.Common.{take}
use Rattle.asl_code.specs.declared.path.Op.{Op}
use Rattle.asl_assembler.specs.Writing.{WritesEach, FitsOpWord, op_text}
use Rattle.asl_assembler.proofs.lock_lines.put_ops.Given as goal

abbrev pub invariant-loop-op : goal.invariant-loop-op
invariant-loop-op l = WritesEach Op FitsOpWord op_text l.initial.text.items l.text.items (take l.op-index l.ops)

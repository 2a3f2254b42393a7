use Rattle.std.proofs.Common.{arith}
use Rattle.asl_class_text.proofs.Lined.{none_read, all_read}
use Rattle.asl_class_text.proofs.statements.one_line.Goals as goal

pub loop-byte-init : goal.loop-byte-init
loop-byte-init c = none_read _ _ c.new-text.ensures.bytes

pub returns : goal.returns
returns c = all_read _ _ _ _ (omega arith) c.loop-byte.invariant

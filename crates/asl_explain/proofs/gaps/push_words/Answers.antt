use Rattle.std.proofs.Common.{arith}
use Rattle.asl_explain.proofs.Blanks.{none_read, all_read}
use Rattle.asl_explain.proofs.gaps.push_words.Goals as goal

pub loop-byte-init : goal.loop-byte-init
loop-byte-init c = none_read _ _ _

pub returns : goal.returns
returns c = all_read _ _ _ _ _ _ (omega arith) c.loop-byte.invariant

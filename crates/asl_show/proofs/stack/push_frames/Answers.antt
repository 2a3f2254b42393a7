use Rattle.std.proofs.Common.{arith}
use Rattle.asl_show.proofs.Lines.{none_written, more_written, all_written}
use Rattle.asl_show.proofs.stack.push_frames.Goals as goal

pub loop-index-init : goal.loop-index-init
loop-index-init c = none_written _ _ _

pub loop-index-preserved : goal.loop-index-preserved
loop-index-preserved c = more_written _ _ _ _ _ _ (omega arith) c.in_ok-push_frame.ensures c.loop-index.invariant

pub returns : goal.returns
returns c = all_written _ _ _ _ _ (omega arith) c.loop-index.invariant

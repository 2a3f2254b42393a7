use Rattle.std.proofs.Common.{arith}
use Rattle.asl_show.proofs.Lines.{none_written, more_written, all_written}
use Rattle.asl_show.proofs.request_lines.push_asks.Goals as goal

pub loop-t-init : goal.loop-t-init
loop-t-init c = none_written _ _ _

pub loop-t-preserved : goal.loop-t-preserved
loop-t-preserved c = more_written _ _ _ _ _ _ (omega arith) c.in_ok-push_asks_of.ensures c.loop-t.invariant

pub returns : goal.returns
returns c = all_written _ _ _ _ _ (omega arith) c.loop-t.invariant

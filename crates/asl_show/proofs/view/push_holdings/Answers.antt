use Rattle.std.proofs.Common.{arith}
use Rattle.asl_show.proofs.Lines.{none_written, more_written, all_written}
use Rattle.asl_show.proofs.view.push_holdings.Goals as goal

pub loop-t-init : goal.loop-t-init
loop-t-init c = none_written _ _ _

pub loop-t-preserved : goal.loop-t-preserved
loop-t-preserved c = more_written _ _ _ _ _ _ (omega arith) c.in_ok-push_holding.ensures c.loop-t.invariant

pub returns : goal.returns
returns c = all_written _ _ _ _ _ (omega arith) c.loop-t.invariant

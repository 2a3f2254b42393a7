use Rattle.std.proofs.Common.{arith}
use Rattle.asl_show.proofs.Lines.{none_written, more_written, all_written}
use Rattle.asl_show.proofs.clash_lines.push_clashes_at.Goals as goal

pub loop-other-init : goal.loop-other-init
loop-other-init c = none_written _ _ _

pub loop-other-preserved : goal.loop-other-preserved
loop-other-preserved c = more_written _ _ _ _ _ _ (omega arith) c.in_ok-push_clash.ensures c.loop-other.invariant

pub returns : goal.returns
returns c = all_written _ _ _ _ _ (omega arith) c.loop-other.invariant

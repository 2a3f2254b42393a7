use Rattle.std.proofs.Common.{arith}
use Rattle.asl_show.proofs.Lines.{none_written, more_written, all_written}
use Rattle.asl_show.proofs.objects.push_cells.Goals as goal

pub loop-object-init : goal.loop-object-init
loop-object-init c = none_written _ _ _

pub loop-object-preserved : goal.loop-object-preserved
loop-object-preserved c = more_written _ _ _ _ _ _ (omega arith) c.in_ok-push_object.ensures c.loop-object.invariant

pub returns : goal.returns
returns c = all_written _ _ _ _ _ (omega arith) c.loop-object.invariant

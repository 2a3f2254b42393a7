use Rattle.std.proofs.Common.{arith}
use Rattle.asl_map.proofs.Told.{none_written, more_written, all_written}
use Rattle.asl_map.proofs.map_text.push_classes.Goals as goal

pub loop-class-init : goal.loop-class-init
loop-class-init c = none_written _ _ _

pub loop-class-preserved : goal.loop-class-preserved
loop-class-preserved c = more_written _ _ _ _ _ _ (omega arith) c.in_ok-push_members.ensures c.loop-class.invariant

pub returns : goal.returns
returns c = all_written _ _ _ _ _ (omega arith) c.loop-class.invariant

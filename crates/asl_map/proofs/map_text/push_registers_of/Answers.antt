use Rattle.std.proofs.Common.{arith}
use Rattle.asl_map.proofs.Told.{none_told, more_told, all_told}
use Rattle.asl_map.proofs.map_text.push_registers_of.Goals as goal

pub loop-number-init : goal.loop-number-init
loop-number-init c = none_told _ _ _

pub loop-number-preserved : goal.loop-number-preserved
loop-number-preserved c = more_told _ _ _ c.index-names-number.result c.index-names-number.result _ _ _ (omega arith) c.index-names-number.is c.in_ok-push_register.ensures c.loop-number.invariant

pub returns : goal.returns
returns c = all_told _ _ _ _ _ (omega arith) c.loop-number.invariant

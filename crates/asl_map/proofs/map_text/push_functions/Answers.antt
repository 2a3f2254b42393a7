use Rattle.std.proofs.Common.{arith}
use Rattle.asl_map.proofs.Told.{none_told, more_told, all_told}
use Rattle.asl_map.proofs.map_text.push_functions.Goals as goal

pub loop-number-init : goal.loop-number-init
loop-number-init c = none_told _ _ _

pub loop-number-preserved : goal.loop-number-preserved
loop-number-preserved c = more_told _ _ _ c.index-functions-number.result c.index-functions-number.result _ _ _ (omega arith) c.index-functions-number.is c.in_ok-push_function.ensures c.loop-number.invariant

pub returns : goal.returns
returns c = all_told _ _ _ _ _ (omega arith) c.loop-number.invariant

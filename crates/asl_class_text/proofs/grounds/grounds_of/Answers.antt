use Rattle.std.proofs.Common.{arith}
use Rattle.asl_class_text.proofs.Grounded.{no_grounds_gone, all_gone}
use Rattle.asl_class_text.proofs.grounds.grounds_of.Goals as goal

pub loop-number-init : goal.loop-number-init
loop-number-init c = no_grounds_gone _ _ _ _ _ c.in_ok-grounds.ensures

pub push_own-requires-clause-straight : goal.push_own-requires-clause-straight
push_own-requires-clause-straight c = c.loop-number.invariant.pairs.so_far.each

pub loop-number-preserved : goal.loop-number-preserved
loop-number-preserved c = c.in_ok-push_own.ensures _ c.loop-number.invariant

pub returns : goal.returns
returns c = all_gone _ _ _ _ _ _ (omega arith) c.loop-number.invariant

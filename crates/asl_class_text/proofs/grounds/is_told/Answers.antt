use Rattle.std.proofs.Common.{arith}
use Rattle.asl_class_text.proofs.Paired.{there_at}
use Rattle.asl_class_text.proofs.Grounded.{none_yet, none_more, none_told}
use Rattle.asl_class_text.proofs.grounds.is_told.Goals as goal

pub loop-ground-init : goal.loop-ground-init
loop-ground-init c = none_yet _ _ _

pub loop-ground-preserved : goal.loop-ground-preserved
loop-ground-preserved c =
    none_more _ _ _ _ c.ground-item.result (there_at _ _ c.ground-item.result c.ground-item.result c.loop-ground-test.true c.ground-item.is) (c.is_of.ensures.no c.if-is_of.false) c.loop-ground.invariant

pub returns-then-is_of-clause-yes : goal.returns-then-is_of-clause-yes
returns-then-is_of-clause-yes c = λ e. record {
  at = c.loop-ground.ground-index;
  ground = c.ground-item.result;
  there = there_at _ _ c.ground-item.result c.ground-item.result c.loop-ground-test.true c.ground-item.is;
  of = c.is_of.ensures.yes c.if-is_of.true;
}

pub returns-clause-no : goal.returns-clause-no
returns-clause-no c = λ e. none_told _ _ _ _ (omega arith) c.loop-ground.invariant

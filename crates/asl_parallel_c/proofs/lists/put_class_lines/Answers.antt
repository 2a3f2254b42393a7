use Rattle.std.proofs.Common.{refl}
use Rattle.asl_parallel_c.specs.Lists.{class_lines}
use Rattle.asl_parallel_c.proofs.Rows.{item_at, all_done}
use Rattle.asl_parallel_c.proofs.lists.put_class_lines.Goals as goal

pub loop-class-init : goal.loop-class-init
loop-class-init g c = refl

pub loop-class-preserved : goal.loop-class-preserved
loop-class-preserved g c = item_at class_lines class_lines _ _ c.loop-class.text.items c.fill.new.text.items c.args.classes.now c.loop-class.class-index 0 c.loop-class-test.true c.loop-class.invariant (rw c.from.ensures at c.in_ok-fill.ensures.filled) refl

pub returns-clause-written : goal.returns-clause-written
returns-clause-written g c = all_done class_lines class_lines _ c.loop-class.text.items c.args.classes.now c.loop-class.class-index c.loop-class-test.false refl c.loop-class.invariant

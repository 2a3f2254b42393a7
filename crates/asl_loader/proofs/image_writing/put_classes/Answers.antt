use Rattle.std.proofs.Common.{ℕ, ◌<◌, ◌^◌}
use Rattle.asl_loader.specs.Bytes.{class_fields}
use Rattle.asl_loader.proofs.Writes.{none_written, more_at, all_written}
use Rattle.asl_loader.proofs.image_writing.put_classes.Goals as goal

pub loop-class-init : goal.loop-class-init
loop-class-init c = none_written ℕ (λ class. class < 2 ^ 16) class_fields c.args.out.now.items

pub loop-class-preserved : goal.loop-class-preserved
loop-class-preserved c = more_at ℕ (λ class. class < 2 ^ 16) class_fields c.args.out.now.items c.loop-class.out.items c.put_two.new.out.items c.args.classes.now c.loop-class.class-index _ c.loop-class-test.true c.loop-class.invariant c.in_ok-put_two.ensures.added

pub returns : goal.returns
returns c = all_written ℕ (λ class. class < 2 ^ 16) class_fields c.args.out.now.items c.loop-class.out.items c.args.classes.now c.loop-class.class-index c.loop-class-test.false c.loop-class.invariant

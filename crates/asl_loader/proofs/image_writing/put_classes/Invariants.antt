use Rattle.std.proofs.Common.{take, ℕ, ◌<◌, ◌^◌}
use Rattle.asl_loader.specs.Bytes.{class_fields}
use Rattle.asl_loader.specs.Writing.{WritesEach}
use Rattle.asl_loader.proofs.image_writing.put_classes.Given as goal

abbrev pub invariant-loop-class : goal.invariant-loop-class
invariant-loop-class l = WritesEach ℕ (λ class. class < 2 ^ 16) class_fields l.initial.out.items l.out.items (take l.class-index l.classes)

use Rattle.asl_emitter.specs.BuiltImage.{AreFitted}
use Rattle.asl_emitter.proofs.inferred_image.lists.Given as goal

abbrev pub invariant-loop-number : goal.invariant-loop-number
invariant-loop-number l = AreFitted l.lowering l.classes l.flow l.number l.lists.items

use Rattle.std.proofs.Common.{◌≡◌, take, map}
use Rattle.asl_machine.specs.Run.{global_object}
use Rattle.asl_machine.proofs.heap.Heap.of_globals.Given as goal

abbrev pub invariant-loop-class : goal.invariant-loop-class
invariant-loop-class l = l.objects.items ≡ map global_object (take l.class-index l.classes)

use Rattle.std.proofs.Common.{◌≡◌, take}
use Rattle.asl_machine.proofs.heap.Heap.try_copy.Given as goal

abbrev pub invariant-loop-object : goal.invariant-loop-object
invariant-loop-object l = l.objects.items ≡ take l.object-index l.self

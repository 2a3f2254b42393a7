use Rattle.asl_machine.specs.Places.{IsSought}
use Rattle.asl_machine.proofs.places.Places.find.Given as goal

abbrev pub invariant-loop-next : goal.invariant-loop-next
invariant-loop-next l = IsSought l.request l.node l.next

abbrev pub decreases-loop-next : goal.decreases-loop-next
decreases-loop-next l = l.next

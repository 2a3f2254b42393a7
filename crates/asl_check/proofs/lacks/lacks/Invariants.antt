use Rattle.std.proofs.Common.{length}
use Rattle.asl_backward_flow.specs.Needed.{IsTold}
use Rattle.asl_check.specs.KnownLists.{AreLacksBelow}
use Rattle.asl_check.proofs.lacks.lacks.Given as goal

abbrev pub invariant-loop-number : goal.invariant-loop-number
invariant-loop-number l = AreLacksBelow l.lowering l.classes (IsTold l.flow) l.lists l.number 0 l.faults.items

abbrev pub invariant-loop-place : goal.invariant-loop-place
invariant-loop-place l = AreLacksBelow l.lowering l.classes (IsTold l.flow) l.lists (length l.lowering.sections) l.place l.faults.items

use Rattle.std.proofs.Common.{[]}
use Rattle.asl_backward_flow.specs.Follows.{read}
use Rattle.asl_backward_flow.specs.Parts.{ListsBelow}
use Rattle.asl_backward_flow.proofs.Entering.{each_entered}
use Rattle.asl_backward_flow.proofs.call_needs.entered.Given as goal

abbrev pub invariant-loop-lock : goal.invariant-loop-lock
invariant-loop-lock l = ListsBelow (each_entered (read l.analysis) l.part l.pc l.locks) l.lock-index [] l.all.items

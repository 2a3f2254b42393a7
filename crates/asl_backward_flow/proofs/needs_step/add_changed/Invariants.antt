use Rattle.asl_backward_flow.specs.Found.{table, locks_of}
use Rattle.asl_backward_flow.specs.Follows.{read, AddedBelow}
use Rattle.asl_backward_flow.proofs.Linking.{each_lock, Linked}
use Rattle.asl_backward_flow.proofs.needs_step.add_changed.Given as goal

abbrev pub invariant-loop-number : goal.invariant-loop-number
invariant-loop-number l =
    AddedBelow (read l.fn.analysis) (table l.fn.found) (table l.found) (each_lock (Linked (read l.fn.analysis) l.fn.part l.fn.pc) (locks_of (table l.fn.found) l.fn.part) l.numbers) l.number-index

use Rattle.asl_lock_expr.specs.Links.{IsOne}
use Rattle.asl_backward_flow.specs.Entering.{AreEntered}
use Rattle.asl_backward_flow.specs.Found.{table}
use Rattle.asl_backward_flow.specs.Follows.{read, AddedBelow}
use Rattle.asl_backward_flow.proofs.Each.{each_call}
use Rattle.asl_backward_flow.proofs.call_needs.add_call.Given as goal

abbrev pub invariant-loop-part : goal.invariant-loop-part
invariant-loop-part l = record {
  added : AddedBelow (read l.fn.analysis) (table l.fn.found) (table l.found) (each_call (read l.fn.analysis) l.fn.pc (IsOne l.fn.locks) l.part-items) l.part-index;
  known : AreEntered (read l.fn.analysis) (table l.found) (IsOne l.fn.locks) l.known.list.items;
}

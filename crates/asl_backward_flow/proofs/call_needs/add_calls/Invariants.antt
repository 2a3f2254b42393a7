use Rattle.asl_lock_expr.specs.Links.{IsOne}
use Rattle.asl_backward_flow.specs.Entering.{AreEntered}
use Rattle.asl_backward_flow.specs.Found.{table}
use Rattle.asl_backward_flow.specs.Follows.{read, AddedBelow}
use Rattle.asl_backward_flow.proofs.Each.{each_call_of}
use Rattle.asl_backward_flow.proofs.call_needs.add_calls.Given as goal

abbrev pub invariant-loop-pc : goal.invariant-loop-pc
invariant-loop-pc l = record {
  added : AddedBelow (read l.fn.analysis) (table l.fn.found) (table l.found) (each_call_of (read l.fn.analysis) (IsOne l.fn.locks) l.pc-items) l.pc-index;
  known : AreEntered (read l.fn.analysis) (table l.found) (IsOne l.fn.locks) l.known.list.items;
}

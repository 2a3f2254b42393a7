use Rattle.std.proofs.Common.{◌≡◌, length, map}
use Rattle.asl_backward_flow.specs.Graph.{IsEdge}
use Rattle.asl_backward_flow.specs.Found.{table, locks_of, IsNamed}
use Rattle.asl_backward_flow.specs.Follows.{read, AddedBelow, AreBefore}
use Rattle.asl_backward_flow.specs.Masked.{AreAllMasks}
use Rattle.asl_backward_flow.proofs.Befores.{each_back}
use Rattle.asl_backward_flow.proofs.needs_step.add_back.Given as goal

abbrev pub invariant-loop-number : goal.invariant-loop-number
invariant-loop-number l = record {
  added : AddedBelow (read l.fn.analysis) (table l.fn.found) (table l.found) (each_back (read l.fn.analysis) l.fn.part (IsNamed (locks_of (table l.fn.found) l.fn.part) l.fn.scratch.set) l.scratch.pcs.items) l.number;
  masks : AreAllMasks (read l.fn.analysis) (table l.found) (map (λ v. v.list.items) l.scratch.masks.items);
  set : l.scratch.set ≡ l.fn.scratch.set;
  before : AreBefore (read l.fn.analysis) l.fn.part l.fn.pc (IsEdge l.fn.analysis.lowering.now l.fn.pc) l.scratch.pcs.items;
  all : length l.scratch.pcs.items ≡ l.number-end;
}

use Rattle.asl_backward_flow.specs.Found.{table}
use Rattle.asl_backward_flow.specs.Follows.{read, AddedBelow}
use Rattle.asl_backward_flow.proofs.Each.{each_region}
use Rattle.asl_backward_flow.proofs.access_needs.add_seeds.Given as goal

abbrev pub invariant-loop-part : goal.invariant-loop-part
invariant-loop-part l = AddedBelow (read l.fn.analysis) (table l.fn.found) (table l.found) (each_region (read l.fn.analysis)) l.part

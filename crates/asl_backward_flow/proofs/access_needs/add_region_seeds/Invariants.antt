use Rattle.asl_backward_flow.specs.Found.{table}
use Rattle.asl_backward_flow.specs.Follows.{read, AddedBelow}
use Rattle.asl_backward_flow.proofs.Each.{each_point}
use Rattle.asl_backward_flow.proofs.access_needs.add_region_seeds.Given as goal

abbrev pub invariant-loop-pc : goal.invariant-loop-pc
invariant-loop-pc l = AddedBelow (read l.fn.analysis) (table l.fn.found) (table l.found) (each_point (read l.fn.analysis) l.fn.part) l.pc

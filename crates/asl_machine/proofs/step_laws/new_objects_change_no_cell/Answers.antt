use Rattle.std.proofs.Common.{length}
use Rattle.asl_machine.specs.State.{Object}
use Rattle.asl_machine.proofs.WellFormedHeaps.{value_before, read_before}
use Rattle.asl_machine.proofs.step_laws.new_objects_change_no_cell.Goals as goal

pub returns-clause-cells : goal.returns-clause-cells
returns-clause-cells c = value_before

pub returns-clause-classes : goal.returns-clause-classes
returns-clause-classes c = read_before (λ (o : Object). o.class)

pub returns-clause-sizes : goal.returns-clause-sizes
returns-clause-sizes c = read_before (λ (o : Object). length o.cells)

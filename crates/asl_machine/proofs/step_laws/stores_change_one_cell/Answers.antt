use Rattle.asl_machine.proofs.Heaps.{written_same, written_other, class_of-written, size_of-written}
use Rattle.asl_machine.proofs.WellFormedHeaps.{length-written}
use Rattle.asl_machine.proofs.step_laws.stores_change_one_cell.Goals as goal

pub returns-clause-stored : goal.returns-clause-stored
returns-clause-stored c = written_same

pub returns-clause-others : goal.returns-clause-others
returns-clause-others c = λ objects cell other value apart. written_other objects cell value other apart

pub returns-clause-classes : goal.returns-clause-classes
returns-clause-classes c = class_of-written

pub returns-clause-sizes : goal.returns-clause-sizes
returns-clause-sizes c = size_of-written

pub returns-clause-count : goal.returns-clause-count
returns-clause-count c = length-written

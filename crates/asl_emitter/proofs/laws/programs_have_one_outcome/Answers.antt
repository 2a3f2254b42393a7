use Rattle.asl_emitter.proofs.Outcomes.{registers, code_size, access, classes, locks, accepted}
use Rattle.asl_emitter.proofs.laws.programs_have_one_outcome.Goals as goal

pub returns-clause-registers : goal.returns-clause-registers
returns-clause-registers c = registers

pub returns-clause-code_size : goal.returns-clause-code_size
returns-clause-code_size c = code_size

pub returns-clause-access : goal.returns-clause-access
returns-clause-access c = access

pub returns-clause-classes : goal.returns-clause-classes
returns-clause-classes c = classes

pub returns-clause-locks : goal.returns-clause-locks
returns-clause-locks c = locks

pub returns-clause-accepted : goal.returns-clause-accepted
returns-clause-accepted c = accepted

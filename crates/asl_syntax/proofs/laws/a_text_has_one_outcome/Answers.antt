use Rattle.asl_syntax.proofs.AnyOutcome.{any_outcome}
use Rattle.asl_syntax.proofs.Outcomes.{no_fault, one_fault_at_most}
use Rattle.asl_syntax.proofs.laws.a_text_has_one_outcome.Goals as goal

pub returns-clause-tree : goal.returns-clause-tree
returns-clause-tree c = no_fault

pub returns-clause-fault : goal.returns-clause-fault
returns-clause-fault c = one_fault_at_most

pub returns-clause-some : goal.returns-clause-some
returns-clause-some c = any_outcome

use Rattle.asl_journal.proofs.Outcomes.{some_outcome, outcome_is_one}
use Rattle.asl_journal.proofs.laws.bytes_have_one_outcome.Goals as goal

pub returns-clause-some : goal.returns-clause-some
returns-clause-some c = some_outcome

pub returns-clause-one : goal.returns-clause-one
returns-clause-one c = outcome_is_one

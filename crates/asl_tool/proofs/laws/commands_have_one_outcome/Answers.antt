use Rattle.asl_tool.proofs.Outcomes.{one_outcome, some_outcome}
use Rattle.asl_tool.proofs.laws.commands_have_one_outcome.Goals as goal

pub returns-clause-some : goal.returns-clause-some
returns-clause-some c = some_outcome c.texts_have_one_outcome.ensures.some c.bytes_have_one_outcome.ensures.some

pub returns-clause-one : goal.returns-clause-one
returns-clause-one c = one_outcome c.texts_have_one_outcome.ensures.one c.bytes_have_one_outcome.ensures.one

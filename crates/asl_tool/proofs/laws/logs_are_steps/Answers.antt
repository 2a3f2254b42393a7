use Rattle.asl_tool.proofs.Outcomes.{log_is_step}
use Rattle.asl_tool.proofs.laws.logs_are_steps.Goals as goal

pub returns : goal.returns
returns c = log_is_step c.texts_have_one_outcome.ensures.one c.bytes_have_one_outcome.ensures.one

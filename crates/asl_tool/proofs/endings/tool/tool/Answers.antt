use Rattle.asl_tool.proofs.Telling.{ends_said}
use Rattle.asl_tool.proofs.endings.tool.tool.Goals as goal

pub returns-clause-status : goal.returns-clause-status
returns-clause-status g c =
    ends_said _ _ _ _ _ _ _ _ c.ended-ending.result c.say.ensures.told c.status.result c.status.ensures c.ended-ending.ensures

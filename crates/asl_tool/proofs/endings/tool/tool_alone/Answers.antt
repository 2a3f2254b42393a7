use Rattle.asl_tool.proofs.Telling.{alone_said}
use Rattle.asl_tool.proofs.endings.tool.tool_alone.Goals as goal

pub returns-clause-status : goal.returns-clause-status
returns-clause-status g c =
    alone_said _ _ _ _ _ _ _ _ c.in_ok-ending.ending c.say.ensures.told c.status.result c.status.ensures c.in_ok-ending.ensures.status

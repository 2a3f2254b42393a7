use Rattle.std.proofs.Common.{rules}
use Rattle.asl_tool.proofs.commands.run.run_output.Goals as goal

pub returns-in-Ok-written-clause-ok : goal.returns-in-Ok-written-clause-ok
returns-in-Ok-written-clause-ok g c = search rules

use Rattle.std.proofs.Common.{rules}
use Rattle.asl_tool.proofs.commands.debug.make_move.Goals as goal

pub returns-in-Next-clause-within : goal.returns-in-Next-clause-within
returns-in-Next-clause-within c = search rules

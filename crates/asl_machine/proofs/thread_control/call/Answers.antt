use Rattle.std.proofs.Common.{rules}
use Rattle.asl_machine.proofs.thread_control.call.Goals as goal

pub returns-clause-activity : goal.returns-clause-activity
returns-clause-activity c = search rules

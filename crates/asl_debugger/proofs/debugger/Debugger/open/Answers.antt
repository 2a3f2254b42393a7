use Rattle.asl_debugger.proofs.Marks.{only_memory}
use Rattle.asl_debugger.proofs.debugger.Debugger.open.Goals as goal

pub returns-in-Err-clause-only : goal.returns-in-Err-clause-only
returns-in-Err-clause-only g c j = only_memory c.args.program.now c.args.journal c.in-Err.fault j c.in-Err.ensures.refused

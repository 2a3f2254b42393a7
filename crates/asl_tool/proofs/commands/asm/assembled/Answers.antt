use Rattle.std.proofs.Common.{rules}
use Rattle.asl_tool.proofs.commands.asm.assembled.Goals as goal

pub returns-in-Err-clause-err : goal.returns-in-Err-clause-err
returns-in-Err-clause-err c = search rules

pub returns-in-Ok-store-clause-ok : goal.returns-in-Ok-store-clause-ok
returns-in-Ok-store-clause-ok c = search rules

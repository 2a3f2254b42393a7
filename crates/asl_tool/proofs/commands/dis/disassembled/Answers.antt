use Rattle.std.proofs.Common.{rules}
use Rattle.asl_tool.proofs.commands.dis.disassembled.Goals as goal

pub returns-in-Ok-disassemble-clause-ok : goal.returns-in-Ok-disassemble-clause-ok
returns-in-Ok-disassemble-clause-ok c = search rules

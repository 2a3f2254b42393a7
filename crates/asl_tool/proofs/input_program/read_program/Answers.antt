use Rattle.std.proofs.Common.{rules}
use Rattle.asl_tool.proofs.input_program.read_program.Goals as goal

pub returns-in-Err-clause-err : goal.returns-in-Err-clause-err
returns-in-Err-clause-err c = search rules

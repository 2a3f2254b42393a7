use Rattle.asl_tool.proofs.OverMemory.{over_is_alone}
use Rattle.asl_tool.proofs.laws.words_over_memory_end_as_the_program_does.Goals as goal

pub returns : goal.returns
returns c = λ room words input output e ends. over_is_alone room words input output e ends

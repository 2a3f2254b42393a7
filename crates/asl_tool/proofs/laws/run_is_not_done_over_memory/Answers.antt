use Rattle.asl_tool.proofs.OverMemory.{run_is_not_done}
use Rattle.asl_tool.proofs.laws.run_is_not_done_over_memory.Goals as goal

pub returns : goal.returns
returns c = λ words input output e work ends. run_is_not_done words input output e work ends

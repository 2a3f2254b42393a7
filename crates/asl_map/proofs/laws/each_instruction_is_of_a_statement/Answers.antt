use Rattle.asl_map.proofs.Covering.{each_comes}
use Rattle.asl_map.proofs.laws.each_instruction_is_of_a_statement.Goals as goal

pub returns : goal.returns
returns c = each_comes

use Rattle.asl_lower.proofs.Ruled.{lowering_operands}
use Rattle.asl_lower.proofs.laws.operands_are_there.Goals as goal

pub returns-clause-lowering : goal.returns-clause-lowering
returns-clause-lowering c = lowering_operands

pub returns-clause-kept : goal.returns-clause-kept
returns-clause-kept c l k = k.layout.operands

use Rattle.asl_lower.proofs.BodyFacts.{lowering_returns}
use Rattle.asl_lower.proofs.laws.returns_stand_last.Goals as goal

pub returns-clause-lowering : goal.returns-clause-lowering
returns-clause-lowering c = lowering_returns

pub returns-clause-kept : goal.returns-clause-kept
returns-clause-kept c l k = k.layout.returns

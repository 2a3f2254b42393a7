use Rattle.asl_lower.proofs.BodyFacts.{lowering_nested}
use Rattle.asl_lower.proofs.laws.sections_nest.Goals as goal

pub returns-clause-lowering : goal.returns-clause-lowering
returns-clause-lowering c = lowering_nested

pub returns-clause-kept : goal.returns-clause-kept
returns-clause-kept c l k = k.layout.nested

use Rattle.asl_lower.proofs.SectionFacts.{lowering_stays}
use Rattle.asl_lower.proofs.laws.control_stays_inside.Goals as goal

pub returns-clause-lowering : goal.returns-clause-lowering
returns-clause-lowering c = lowering_stays

pub returns-clause-kept : goal.returns-clause-kept
returns-clause-kept c l k = k.layout.inside

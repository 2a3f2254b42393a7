use Rattle.asl_lower.proofs.SectionFacts.{lowering_numbered}
use Rattle.asl_lower.proofs.laws.numbers_follow_the_code.Goals as goal

pub returns-clause-lowering : goal.returns-clause-lowering
returns-clause-lowering c = lowering_numbered

pub returns-clause-kept : goal.returns-clause-kept
returns-clause-kept c l k = k.layout.numbered

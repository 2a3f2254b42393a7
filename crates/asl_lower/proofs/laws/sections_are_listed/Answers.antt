use Rattle.asl_lower.proofs.SectionFacts.{lowering_sections}
use Rattle.asl_lower.proofs.laws.sections_are_listed.Goals as goal

pub returns-clause-lowering : goal.returns-clause-lowering
returns-clause-lowering c = lowering_sections

pub returns-clause-kept : goal.returns-clause-kept
returns-clause-kept c l k = k.layout.sections

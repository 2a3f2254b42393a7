use Rattle.asl_lower.proofs.BodyFacts.{lowering_parted}
use Rattle.asl_lower.proofs.laws.bodies_part_the_code.Goals as goal

pub returns-clause-lowering : goal.returns-clause-lowering
returns-clause-lowering c = lowering_parted

pub returns-clause-kept : goal.returns-clause-kept
returns-clause-kept c l k = k.layout.parted

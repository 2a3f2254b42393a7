use Rattle.asl_lower.specs.Layout.{lowering_of}
use Rattle.asl_lower.proofs.Laid.{lowering_of_is_lowering, one_lowering}
use Rattle.asl_lower.proofs.laws.one_lowering.Goals as goal

pub returns-clause-there : goal.returns-clause-there
returns-clause-there c is = (lowering_of is, lowering_of_is_lowering is)

pub returns-clause-one : goal.returns-clause-one
returns-clause-one c = one_lowering

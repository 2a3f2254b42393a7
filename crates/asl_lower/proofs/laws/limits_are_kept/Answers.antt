use Rattle.asl_lower.proofs.Limited.{lowering_limits, lowering_main}
use Rattle.asl_lower.proofs.laws.limits_are_kept.Goals as goal

pub returns-clause-limits : goal.returns-clause-limits
returns-clause-limits c = lowering_limits

pub returns-clause-main : goal.returns-clause-main
returns-clause-main c = lowering_main

pub returns-clause-kept : goal.returns-clause-kept
returns-clause-kept c l k = k.layout.limits

pub returns-clause-kept_main : goal.returns-clause-kept_main
returns-clause-kept_main c l k = k.layout.main

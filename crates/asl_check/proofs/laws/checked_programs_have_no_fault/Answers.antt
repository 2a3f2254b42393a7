use Rattle.asl_check.proofs.Complete.{checked_only}
use Rattle.asl_check.proofs.laws.checked_programs_have_no_fault.Goals as goal

pub returns : goal.returns
returns c = checked_only

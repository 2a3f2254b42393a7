use Rattle.asl_check.proofs.Outcomes.{one_refusal}
use Rattle.asl_check.proofs.laws.refusals_of_lists_are_one.Goals as goal

pub returns : goal.returns
returns c = one_refusal

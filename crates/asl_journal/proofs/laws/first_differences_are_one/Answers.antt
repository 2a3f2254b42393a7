use Rattle.asl_journal.proofs.Differences.{one_difference, no_difference}
use Rattle.asl_journal.proofs.laws.first_differences_are_one.Goals as goal

pub returns : goal.returns
returns c = record { one = one_difference; none = no_difference }

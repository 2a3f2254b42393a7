use Rattle.asl_journal.proofs.Runs.{prefix_is_journal}
use Rattle.asl_journal.proofs.laws.prefixes_are_journals.Goals as goal

pub returns : goal.returns
returns c = prefix_is_journal

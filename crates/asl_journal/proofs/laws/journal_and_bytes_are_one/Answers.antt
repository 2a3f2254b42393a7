use Rattle.asl_journal.proofs.Logs.{log_is_one}
use Rattle.asl_journal.proofs.laws.journal_and_bytes_are_one.Goals as goal

pub returns-clause-journal : goal.returns-clause-journal
returns-clause-journal c = log_is_one

use Rattle.asl_journal.proofs.RunFiles.{files_have_an_outcome, file_outcome_is_one}
use Rattle.asl_journal.proofs.laws.run_files_have_one_outcome.Goals as goal

pub returns : goal.returns
returns c = record { some = files_have_an_outcome; one = file_outcome_is_one }

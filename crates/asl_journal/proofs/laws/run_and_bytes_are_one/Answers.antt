use Rattle.asl_journal.proofs.RunFiles.{run_is_one, spelling_is_one}
use Rattle.asl_journal.proofs.laws.run_and_bytes_are_one.Goals as goal

pub returns : goal.returns
returns c = record { run = run_is_one; bytes = spelling_is_one }

use Rattle.asl_journal.specs.Journal.{schedule_of, replies_in}
use Rattle.asl_theorems.proofs.Checked.{checked_safe}
use Rattle.asl_theorems.proofs.no_checked_program_faults_for_a_missing_lock.Goals as goal

pub returns : goal.returns
returns c = λ source tree k_limit image count events end parsed verified h leads.
    checked_safe source tree k_limit image parsed verified h count (schedule_of events) (replies_in events) end leads.runs

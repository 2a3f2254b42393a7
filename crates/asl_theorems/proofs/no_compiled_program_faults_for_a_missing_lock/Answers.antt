use Rattle.asl_journal.specs.Journal.{schedule_of, replies_in}
use Rattle.asl_theorems.proofs.Programs.{compiled_safe}
use Rattle.asl_theorems.proofs.no_compiled_program_faults_for_a_missing_lock.Goals as goal

pub returns : goal.returns
returns c = λ source k_limit image count events end p h. compiled_safe source k_limit image p count (schedule_of events) (replies_in events) end h.runs

use Rattle.asl_machine.specs.Run.{start_of}
use Rattle.asl_theorems.specs.Journals.{AreSteps}
use Rattle.asl_theorems.proofs.Checked.{checked_serial, checked_serial_up_to}
use Rattle.asl_theorems.proofs.Runs.{steps_of}
use Rattle.asl_theorems.proofs.Serials.{serial_journal, serial_journal_up_to}
use Rattle.asl_theorems.proofs.journals_of_checked_programs_are_atomic.Goals as goal

pub returns : goal.returns
returns c = λ source tree k_limit image count events end parsed verified h leads.
    let found = steps_of image events (start_of image count) end leads.runs in
    let are : AreSteps image count events end found.0 = record { run = found.1; told = found.2 } in (
      found.0,
      are,
      λ none. serial_journal image count events end found.0 leads.counted are (checked_serial source tree k_limit image parsed verified h count found.0 end found.1 none),
      λ room. serial_journal_up_to image count events end found.0 leads.counted are (checked_serial_up_to source tree k_limit image parsed verified h count found.0 end found.1 room),
    )

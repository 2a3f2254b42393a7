use Rattle.asl_machine.specs.Run.{start_of}
use Rattle.asl_theorems.specs.Journals.{AreSteps}
use Rattle.asl_theorems.proofs.Programs.{compiled_serial, compiled_serial_up_to}
use Rattle.asl_theorems.proofs.Runs.{steps_of}
use Rattle.asl_theorems.proofs.Serials.{serial_journal, serial_journal_up_to}
use Rattle.asl_theorems.proofs.journals_of_compiled_programs_are_atomic.Goals as goal

pub returns : goal.returns
returns c = λ source k_limit image count events end p leads.
    let found = steps_of image events (start_of image count) end leads.runs in
    let are : AreSteps image count events end found.0 = record { run = found.1; told = found.2 } in (
      found.0,
      are,
      λ none. serial_journal image count events end found.0 leads.counted are (compiled_serial source k_limit image p count found.0 end found.1 none),
      λ room. serial_journal_up_to image count events end found.0 leads.counted are (compiled_serial_up_to source k_limit image p count found.0 end found.1 room),
    )

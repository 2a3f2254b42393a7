use Rattle.std.proofs.Common.{sym, ◌∙◌}
use Rattle.asl_journal.proofs.ByTable.{end_is}
use Rattle.asl_machine.specs.Run.{start_of}
use Rattle.asl_theorems.proofs.Runs.{lead_journal, one_run_of, steps_of, steps_table}
use Rattle.asl_theorems.proofs.journals_are_runs_by_the_table.Goals as goal

pub returns-clause-table : goal.returns-clause-table
returns-clause-table c = lead_journal

pub returns-clause-one : goal.returns-clause-one
returns-clause-one c image count events end other v leads others = end_is image count events end leads ∙ sym (end_is image count events other others)

pub returns-clause-some : goal.returns-clause-some
returns-clause-some c image count events end leads = steps_of image events (start_of image count) end leads.runs

pub returns-clause-only : goal.returns-clause-only
returns-clause-only c image count steps end counted run = record { counted = counted; runs = steps_table image steps (start_of image count) end run }

pub returns-clause-steps : goal.returns-clause-steps
returns-clause-steps c image count steps others end other run there same = one_run_of image steps others (start_of image count) end other run there same

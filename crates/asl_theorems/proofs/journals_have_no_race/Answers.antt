use Rattle.asl_theorems.proofs.Racing.{compiled_race_free, checked_race_free, race_free_journal}
use Rattle.asl_theorems.proofs.journals_have_no_race.Goals as goal

pub returns-clause-compiled : goal.returns-clause-compiled
returns-clause-compiled c source k_limit image count events end p leads = race_free_journal image count events end (compiled_race_free source k_limit image p count) leads

pub returns-clause-checked : goal.returns-clause-checked
returns-clause-checked c source tree k_limit image count events end parsed verified h leads = race_free_journal image count events end (checked_race_free source tree k_limit image count parsed verified h) leads

pub returns-clause-workers : goal.returns-clause-workers
returns-clause-workers c source k_limit image count workers events receipts p h = (
  h.journal.end,
  race_free_journal image count events h.journal.end (compiled_race_free source k_limit image p count) h.journal.leads,
)

pub returns-clause-checked_workers : goal.returns-clause-checked_workers
returns-clause-checked_workers c source tree k_limit image count workers events receipts parsed verified checked h = (
  h.journal.end,
  race_free_journal image count events h.journal.end (checked_race_free source tree k_limit image count parsed verified checked) h.journal.leads,
)

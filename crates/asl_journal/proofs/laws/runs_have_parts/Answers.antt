use Rattle.asl_journal.proofs.ByTable.{runs_append, runs_parts}
use Rattle.asl_journal.proofs.laws.runs_have_parts.Goals as goal

pub returns : goal.returns
returns c = record { together = runs_append; parts = runs_parts }

use Rattle.asl_machine.proofs.Runs.{runs_append, runs_parts}
use Rattle.asl_machine.proofs.run_laws.runs_go_on.Goals as goal

pub returns : goal.returns
returns c = record { together = runs_append; parts = runs_parts }

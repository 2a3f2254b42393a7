use Rattle.asl_machine.proofs.Reached.{reached_count}
use Rattle.asl_machine.proofs.Runs.{start_reached, line_reached, run_reached}
use Rattle.asl_machine.proofs.run_laws.runs_reach.Goals as goal

pub returns : goal.returns
returns c = record { start = start_reached; step = line_reached; run = run_reached; count = reached_count }

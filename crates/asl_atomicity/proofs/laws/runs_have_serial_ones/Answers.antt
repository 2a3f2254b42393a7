use Rattle.asl_atomicity.proofs.ByTable.{runs_serial}
use Rattle.asl_atomicity.proofs.laws.runs_have_serial_ones.Goals as goal

pub returns : goal.returns
returns c = runs_serial

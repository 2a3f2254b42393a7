use Rattle.asl_atomicity.proofs.ByTable.{runs_serial_up_to}
use Rattle.asl_atomicity.proofs.laws.runs_have_serial_ones_up_to_numbers.Goals as goal

pub returns : goal.returns
returns c = runs_serial_up_to

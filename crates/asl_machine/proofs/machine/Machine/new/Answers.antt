use Rattle.std.proofs.Common.{arith}
use Rattle.asl_machine.proofs.machine.Machine.new.Goals as goal

pub start-requires : goal.start-requires
start-requires c = record { count = (omega arith, omega arith) }

use Rattle.asl_theorems.proofs.Checked.{checked_serial, checked_serial_up_to}
use Rattle.asl_theorems.proofs.checked_programs_are_atomic.Goals as goal

pub returns-clause-serial : goal.returns-clause-serial
returns-clause-serial c source tree k_limit image count steps end parsed verified h run none = checked_serial source tree k_limit image parsed verified h count steps end run none

pub returns-clause-up_to_numbers : goal.returns-clause-up_to_numbers
returns-clause-up_to_numbers c source tree k_limit image count steps end parsed verified h run room = checked_serial_up_to source tree k_limit image parsed verified h count steps end run room

use Rattle.asl_theorems.proofs.Programs.{compiled_serial, compiled_serial_up_to}
use Rattle.asl_theorems.proofs.compiled_programs_are_atomic.Goals as goal

pub returns-clause-serial : goal.returns-clause-serial
returns-clause-serial c source k_limit image count steps end p run none = compiled_serial source k_limit image p count steps end run none

pub returns-clause-up_to_numbers : goal.returns-clause-up_to_numbers
returns-clause-up_to_numbers c source k_limit image count steps end p run room = compiled_serial_up_to source k_limit image p count steps end run room

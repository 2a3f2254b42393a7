use Rattle.asl_theorems.proofs.Racing.{compiled_race_free, checked_race_free}
use Rattle.asl_theorems.proofs.programs_have_no_race.Goals as goal

pub returns-clause-compiled : goal.returns-clause-compiled
returns-clause-compiled c source k_limit image count p = compiled_race_free source k_limit image p count

pub returns-clause-checked : goal.returns-clause-checked
returns-clause-checked c = checked_race_free

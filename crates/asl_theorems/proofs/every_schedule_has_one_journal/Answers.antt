use Rattle.std.proofs.Common.{◌∷◌, []}
use Rattle.asl_code.proofs.FitsBack.{verified_from_facts}
use Rattle.asl_machine.specs.Run.{start_of}
use Rattle.asl_theorems.proofs.Programs.{compiled_fits}
use Rattle.asl_theorems.proofs.Runs.{events_on, same_schedule, some_journal, one_journal, bare, few, only_first, none_of_bare}
use Rattle.asl_theorems.proofs.every_schedule_has_one_journal.Goals as goal

pub returns-clause-some : goal.returns-clause-some
returns-clause-some c image count schedule v counted there =
    (events_on image (start_of image count) schedule, some_journal image count schedule v counted there, same_schedule image schedule (start_of image count))

pub returns-clause-one : goal.returns-clause-one
returns-clause-one c = one_journal

pub returns-clause-verified : goal.returns-clause-verified
returns-clause-verified c source k_limit image p = verified_from_facts image (compiled_fits source k_limit image p)

pub returns-clause-others : goal.returns-clause-others
returns-clause-others c every =
    let found = every bare 1 (0 ∷ []) few only_first in
    none_of_bare found.0 found.1.0 found.1.1 found.1.2

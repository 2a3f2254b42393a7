use Rattle.asl_lower.proofs.Layouts.{lowering_layout}
use Rattle.asl_emitter.proofs.Alike.{one_image}
use Rattle.asl_emitter.proofs.Outcomes.{accepted}
use Rattle.asl_theorems.proofs.Surely.{mapped}
use Rattle.asl_theorems.proofs.Finest.{surely_classes}
use Rattle.asl_theorems.proofs.Existing.{surely_image, some_outcome}
use Rattle.asl_theorems.proofs.every_program_has_one_outcome.Goals as goal

pub returns-clause-image : goal.returns-clause-image
returns-clause-image c = surely_image

pub returns-clause-one : goal.returns-clause-one
returns-clause-one c = one_image

pub returns-clause-both : goal.returns-clause-both
returns-clause-both c tree k_limit fault p r = accepted tree k_limit fault p r

pub returns-clause-neither : goal.returns-clause-neither
returns-clause-neither c source tree k_limit parses no_image no_fault = some_outcome source tree k_limit parses no_image no_fault

pub returns-clause-classes : goal.returns-clause-classes
returns-clause-classes c source tree l parses lowers =
    mapped (surely_classes l (lowering_layout tree l (record { text = source; parses = parses }) lowers)) (λ p. (p.0, p.1))

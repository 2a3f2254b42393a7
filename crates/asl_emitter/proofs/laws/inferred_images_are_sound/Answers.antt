use Rattle.asl_emitter.proofs.Verifying.{inferred_fits}
use Rattle.asl_emitter.proofs.Sounding.{inferred_sound}
use Rattle.asl_emitter.proofs.Guarding.{inferred_serial, inferred_serial_up_to}
use Rattle.asl_emitter.proofs.laws.inferred_images_are_sound.Goals as goal

pub returns-clause-verified : goal.returns-clause-verified
returns-clause-verified c = inferred_fits

pub returns-clause-sound : goal.returns-clause-sound
returns-clause-sound c = inferred_sound

pub returns-clause-atomic : goal.returns-clause-atomic
returns-clause-atomic c = inferred_serial

pub returns-clause-atomic_up_to_numbers : goal.returns-clause-atomic_up_to_numbers
returns-clause-atomic_up_to_numbers c = inferred_serial_up_to

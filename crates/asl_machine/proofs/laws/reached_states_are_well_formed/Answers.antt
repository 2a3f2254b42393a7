use Rattle.asl_code.proofs.FitsLaws.{image_fits}
use Rattle.asl_machine.proofs.Reached.{reached_sound}
use Rattle.asl_machine.proofs.laws.reached_states_are_well_formed.Goals as goal

pub returns : goal.returns
returns c = λ image count s v r. (reached_sound image count s (image_fits image v) r).formed

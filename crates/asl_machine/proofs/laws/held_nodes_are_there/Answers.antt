use Rattle.asl_code.proofs.FitsLaws.{image_fits}
use Rattle.asl_machine.proofs.Reached.{reached_sound}
use Rattle.asl_machine.proofs.laws.held_nodes_are_there.Goals as goal

pub returns : goal.returns
returns c = λ image count s t node v r ne. (reached_sound image count s (image_fits image v) r).there t node ne

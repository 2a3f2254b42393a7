use Rattle.std.proofs.Common.{refl}
use Rattle.asl_machine.proofs.NodePlaces.{none_placed}
use Rattle.asl_machine.proofs.places.Places.new.Goals as goal

pub returns : goal.returns
returns c = none_placed _ refl refl

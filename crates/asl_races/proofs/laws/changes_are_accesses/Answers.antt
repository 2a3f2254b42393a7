use Rattle.asl_code.proofs.FitsLaws.{image_fits}
use Rattle.asl_races.proofs.Changing.{accesses_changes}
use Rattle.asl_races.proofs.laws.changes_are_accesses.Goals as goal

pub returns : goal.returns
returns c image count v = accesses_changes image count (image_fits image v)

use Rattle.asl_code.proofs.FitsLaws.{image_fits}
use Rattle.asl_races.proofs.TriesAfter.{grants_with_care}
use Rattle.asl_races.proofs.laws.tries_are_granted_as_by_the_table.Goals as goal

pub returns : goal.returns
returns c image count v guarded = grants_with_care image count (image_fits image v) guarded

use Rattle.asl_code.proofs.FitsLaws.{image_fits}
use Rattle.asl_races.specs.Tries.{AccessesOrTries, HappensBeforeWithTries}
use Rattle.asl_races.proofs.Handing.{no_race}
use Rattle.asl_races.proofs.Tries.{ordered_tries, tries_stand_before}
use Rattle.asl_races.proofs.laws.tries_have_no_race.Goals as goal

pub returns-clause-races : goal.returns-clause-races
returns-clause-races c image count v = no_race image count (HappensBeforeWithTries image) (AccessesOrTries image) (ordered_tries image count (image_fits image v))

pub returns-clause-ordered : goal.returns-clause-ordered
returns-clause-ordered c image count v = ordered_tries image count (image_fits image v)

pub returns-clause-order : goal.returns-clause-order
returns-clause-order c = tries_stand_before

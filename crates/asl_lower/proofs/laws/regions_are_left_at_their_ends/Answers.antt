use Rattle.asl_lower.proofs.Inside.{region_goes_on, section_entered, outermost_inside}
use Rattle.asl_lower.proofs.laws.regions_are_left_at_their_ends.Goals as goal

pub returns-clause-goes_on : goal.returns-clause-goes_on
returns-clause-goes_on c l k = region_goes_on l k.layout

pub returns-clause-entered : goal.returns-clause-entered
returns-clause-entered c l k = section_entered l k.layout

pub returns-clause-outermost : goal.returns-clause-outermost
returns-clause-outermost c l k = outermost_inside l k.layout

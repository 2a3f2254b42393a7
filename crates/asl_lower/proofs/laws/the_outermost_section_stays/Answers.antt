use Rattle.asl_lower.proofs.Inside.{opened_after_acquire, outermost_stays, outermost_left}
use Rattle.asl_lower.proofs.laws.the_outermost_section_stays.Goals as goal

pub returns-clause-opened : goal.returns-clause-opened
returns-clause-opened c = opened_after_acquire

pub returns-clause-stays : goal.returns-clause-stays
returns-clause-stays c l k = outermost_stays l k.layout

pub returns-clause-left : goal.returns-clause-left
returns-clause-left c l k = outermost_left l k.layout

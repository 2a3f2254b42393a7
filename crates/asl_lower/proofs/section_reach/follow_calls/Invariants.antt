-- the functions that were followed so far
use Rattle.asl_lower.specs.LegalLowering.{lowered_of}
use Rattle.asl_lower.specs.Reach.{where_of}
use Rattle.asl_lower.specs.Reach.{unmarked}
use Rattle.asl_lower.proofs.Reaching.{AreDone}
use Rattle.asl_lower.proofs.section_reach.follow_calls.Given as goal

abbrev pub invariant-loop-function : goal.invariant-loop-function
invariant-loop-function l = AreDone (lowered_of l.draft) (where_of l.calls) l.initial.marks l.marks l.followed

abbrev pub decreases-loop-function : goal.decreases-loop-function
decreases-loop-function l = unmarked l.followed

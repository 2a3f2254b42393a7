-- the functions that were followed so far
use Rattle.asl_lower.specs.Reach.{Anywhere, unmarked}
use Rattle.asl_lower.proofs.Reaching.{AreDone}
use Rattle.asl_map.proofs.run_functions.follow_calls.Given as goal

abbrev pub invariant-loop-function : goal.invariant-loop-function
invariant-loop-function l = AreDone l.lowering Anywhere l.initial.marks l.marks l.followed

abbrev pub decreases-loop-function : goal.decreases-loop-function
decreases-loop-function l = unmarked l.followed

-- the functions that were followed so far
use Rattle.std.proofs.Common.{map}
use Rattle.asl_syntax.specs.View.{item_of}
use Rattle.asl_lower.specs.Layout.{lowering_of}
use Rattle.asl_lower.specs.Reach.{Outside, unmarked}
use Rattle.asl_lower.proofs.Reaching.{AreDone}
use Rattle.asl_lower.proofs.outside.follow_calls.Given as goal

abbrev pub invariant-loop-number : goal.invariant-loop-number
invariant-loop-number l = AreDone (lowering_of (map item_of l.items)) Outside l.initial.marks l.marks l.followed

abbrev pub decreases-loop-number : goal.decreases-loop-number
decreases-loop-number l = unmarked l.followed

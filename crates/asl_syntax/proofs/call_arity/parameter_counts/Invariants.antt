-- the counts of what has been read, from the end
use Rattle.std.proofs.Common.{◌≡◌, ◌≤◌, drop, length, map}
use Rattle.asl_syntax.specs.View.{item_of}
use Rattle.asl_syntax.specs.NumberedNamesView.{counts_in}
use Rattle.asl_syntax.specs.Rules.{parameter_counts}
use Rattle.asl_syntax.proofs.call_arity.parameter_counts.Given as goal

abbrev pub invariant-loop-i : goal.invariant-loop-i
invariant-loop-i l =
    (counts_in l.known ≡ parameter_counts (map item_of (drop l.i l.items))) × (l.i ≤ length l.items)

abbrev pub decreases-loop-i : goal.decreases-loop-i
decreases-loop-i l = l.i

-- the names of what has been read, from the end
use Rattle.std.proofs.Common.{◌≡◌, ◌≤◌, drop, length}
use Rattle.asl_syntax.specs.MentionView.{mentions_of}
use Rattle.asl_syntax.specs.NumberedNamesView.{names_known}
use Rattle.asl_syntax.specs.Rules.{names_in}
use Rattle.asl_syntax.proofs.names.names_in.Given as goal

abbrev pub invariant-loop-i : goal.invariant-loop-i
invariant-loop-i l =
    (names_known l.known ≡ names_in l.space (mentions_of (drop l.i l.mentions))) × (l.i ≤ length l.mentions)

abbrev pub decreases-loop-i : goal.decreases-loop-i
decreases-loop-i l = l.i

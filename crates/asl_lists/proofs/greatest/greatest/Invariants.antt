-- longer paths are too long
use Rattle.std.proofs.Common.{◌≤◌}
use Rattle.asl_lists.specs.Lengths.{AreTooLong}
use Rattle.asl_lists.proofs.greatest.greatest.Given as goal

abbrev pub invariant-loop-opened : goal.invariant-loop-opened
invariant-loop-opened l = (l.k ≤ 8) × AreTooLong l.source l.k

abbrev pub decreases-loop-opened : goal.decreases-loop-opened
decreases-loop-opened l = l.k

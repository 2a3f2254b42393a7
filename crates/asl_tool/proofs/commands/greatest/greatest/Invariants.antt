-- longer paths are too long
use Rattle.std.proofs.Common.{◌≤◌}
use Rattle.asl_lists.specs.Lengths.{AreTooLong}
use Rattle.asl_tool.proofs.commands.greatest.greatest.Given as goal

abbrev pub invariant-loop-program : goal.invariant-loop-program
invariant-loop-program l = (l.k ≤ 8) × AreTooLong l.source l.k

abbrev pub decreases-loop-program : goal.decreases-loop-program
decreases-loop-program l = l.k

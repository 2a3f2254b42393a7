use Rattle.std.proofs.Common.{length, ◌-◌}
use Rattle.asl_debugger.specs.Growing.{AreSoFar}
use Rattle.asl_debugger.proofs.checkpoints.put_checkpoints.Given as goal

abbrev pub invariant-loop-here : goal.invariant-loop-here
invariant-loop-here g l = AreSoFar l.program l.journal l.spacing l.here l.machine l.checkpoints.items

abbrev pub decreases-loop-here : goal.decreases-loop-here
decreases-loop-here g l = length l.events - l.here

use Rattle.std.proofs.Common.{length, ◌-◌}
use Rattle.asl_debugger.proofs.Halts.{IsSearching}
use Rattle.asl_debugger.proofs.debugger.Debugger.to_next_stop.Given as goal

abbrev pub invariant-loop-position : goal.invariant-loop-position
invariant-loop-position g l = IsSearching l.self l.machine l.position

abbrev pub decreases-loop-position : goal.decreases-loop-position
decreases-loop-position g l = length l.events - l.position

use Rattle.std.proofs.Common.{◌≡◌, ◌≤◌, ◌-◌}
use Rattle.asl_debugger.specs.Checkpoints.{AreMarks}
use Rattle.asl_debugger.specs.Computed.{machine_before}
use Rattle.asl_debugger.proofs.trail.machine_by_marks.Given as goal

abbrev pub invariant-loop-here : goal.invariant-loop-here
invariant-loop-here g l = record {
  at : l.machine ≡ machine_before l.fn.from.image l.journal l.here;
  order : l.here ≤ l.end;
  marks : AreMarks l.fn.from.image l.journal l.marks.items;
}

abbrev pub decreases-loop-here : goal.decreases-loop-here
decreases-loop-here g l = l.end - l.here

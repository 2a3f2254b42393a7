use Rattle.asl_mode_lanes.specs.Row.{IsRow}
use Rattle.asl_probe_locks.proofs.modes.row.Given as goal

abbrev pub invariant-loop-word : goal.invariant-loop-word
invariant-loop-word l = IsRow l.row.items

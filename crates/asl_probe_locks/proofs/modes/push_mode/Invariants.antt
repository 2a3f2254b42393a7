use Rattle.asl_mode_lanes.specs.Row.{IsRow, IsCode}
use Rattle.asl_probe_locks.proofs.modes.push_mode.Given as goal

abbrev pub invariant-loop : goal.invariant-loop
invariant-loop l = IsRow l.row.items × IsCode l.code

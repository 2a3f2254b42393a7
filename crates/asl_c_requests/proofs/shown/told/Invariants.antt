use Rattle.std.proofs.Common.{◌≡◌, drop}
use Rattle.asl_c_requests.specs.Shown.{told_at}
use Rattle.asl_c_requests.proofs.shown.told.Given as goal

abbrev pub invariant-loop-shown : goal.invariant-loop-shown
invariant-loop-shown l = told_at (drop l.shown-index l.cells) l.cell ≡ told_at l.cells l.cell

use Rattle.std.proofs.Common.{◌≡◌, take}
use Rattle.asl_lock_forest.proofs.rows.Rows.try_copy.Given as goal

abbrev pub invariant-loop-row : goal.invariant-loop-row
invariant-loop-row l = l.classes.items ≡ take l.row-index l.self.classes.items

-- the registers so far
use Rattle.std.proofs.Common.{◌≡◌}
use Rattle.asl_points_to.specs.Numbers.{numbered_row}
use Rattle.asl_points_to.proofs.class_numbers.numbered_row.Given as goal

abbrev pub invariant-loop-register : goal.invariant-loop-register
invariant-loop-register l = l.classes.items ≡ numbered_row l.of l.row l.register

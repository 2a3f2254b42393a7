-- the classes so far
use Rattle.std.proofs.Common.{◌≡◌, take}
use Rattle.asl_points_to.specs.Numbers.{numbered_cells}
use Rattle.asl_points_to.proofs.class_numbers.numbered_cells.Given as goal

abbrev pub invariant-loop-first : goal.invariant-loop-first
invariant-loop-first l = l.classes.items ≡ numbered_cells l.of l.cells (take l.first-index l.firsts)

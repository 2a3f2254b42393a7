-- the numbers so far
use Rattle.std.proofs.Common.{◌≡◌, take}
use Rattle.asl_points_to.proofs.class_numbers.narrowed.Given as goal

abbrev pub invariant-loop-number : goal.invariant-loop-number
invariant-loop-number l = l.narrow.items ≡ take l.number-index l.numbers

-- the members so far
use Rattle.std.proofs.Common.{◌≡◌, ◌≤◌, length}
use Rattle.asl_points_to.proofs.Numbering.{NumberedTo}
use Rattle.asl_points_to.proofs.class_numbers.number_classes.Given as goal

abbrev pub invariant-loop-member : goal.invariant-loop-member
invariant-loop-member l = record {
  numbers : NumberedTo l.initial.sets l.of.items l.firsts.items l.member;
  next : l.next ≡ length l.firsts.items;
  few : length l.firsts.items ≤ l.member;
  same : l.sets ≡ l.initial.sets;
}

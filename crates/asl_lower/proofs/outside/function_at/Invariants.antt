-- the function is the one of the number that is left among those that are left
use Rattle.std.proofs.Common.{◌≡◌, ◌+◌, map, drop, length, slice_get}
use Rattle.asl_syntax.specs.View.{item_of}
use Rattle.asl_syntax.specs.Tree.{functions_of}
use Rattle.asl_lower.proofs.outside.function_at.Given as goal

abbrev pub invariant-loop-item : goal.invariant-loop-item
invariant-loop-item l = record {
  same : slice_get (functions_of (map item_of l.items)) l.number ≡ slice_get (functions_of (map item_of (drop l.item-index l.items))) l.left;
  count : l.number + length (functions_of (map item_of (drop l.item-index l.items))) ≡ l.left + length (functions_of (map item_of l.items));
}

-- none in the bodies so far
use Rattle.std.proofs.Common.{◌≡◌, ◌+◌, ℕ, length, map, drop, slice_get}
use Rattle.asl_syntax.specs.View.{item_of}
use Rattle.asl_syntax.specs.Tree.{functions_of}
use Rattle.asl_lower.specs.Layout.{lowering_of}
use Rattle.asl_lower.specs.OpenSections.{start_of}
use Rattle.asl_lower.proofs.Lowest.{NoneBefore}
use Rattle.asl_lower.proofs.outside.first_bare_access.Given as goal

abbrev pub invariant-loop-item : goal.invariant-loop-item
invariant-loop-item l = record {
  start : l.start ≡ start_of (lowering_of (map item_of l.items)).functions l.number;
  left : (n : ℕ) → slice_get (functions_of (map item_of l.items)) (l.number + n) ≡ slice_get (functions_of (map item_of (drop l.item-index l.items))) n;
  count : l.number + length (functions_of (map item_of (drop l.item-index l.items))) ≡ length (functions_of (map item_of l.items));
  none : NoneBefore (lowering_of (map item_of l.items)) l.start;
}

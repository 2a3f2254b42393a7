use Rattle.std.proofs.Common.{[], map}
use Rattle.asl_lock_expr.specs.Order.{AreInOrder}
use Rattle.asl_backward_flow.specs.Needed.{region_of}
use Rattle.asl_backward_flow.specs.Parts.{part, IsToldAt, ListsBelow}
use Rattle.asl_backward_flow.proofs.flow.told.Given as goal

abbrev pub invariant-loop-part : goal.invariant-loop-part
invariant-loop-part l = record {
  order : AreInOrder l.locks.items;
  locks : ListsBelow (IsToldAt (map part l.candidates) (region_of l.region) l.pc) l.part-index [] l.locks.items;
}

use Rattle.asl_lock_expr.specs.Order.{AreInOrder}
use Rattle.asl_backward_flow.specs.Parts.{IsNumbered, ListsBelow}
use Rattle.asl_backward_flow.proofs.region_needs.RegionNeeds.add_set.Given as goal

abbrev pub invariant-loop-number : goal.invariant-loop-number
invariant-loop-number l = record {
  order : AreInOrder l.locks.items;
  locks : ListsBelow (IsNumbered l.self.locks.keys l.number-items) l.number-index l.fn.locks.items l.locks.items;
}

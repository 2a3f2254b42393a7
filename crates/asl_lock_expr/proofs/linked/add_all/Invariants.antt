use Rattle.std.proofs.Common.{◌⊎◌, ◌↔◌}
use Rattle.asl_code.specs.declared.lock.Lock.{Lock}
use Rattle.asl_lock_expr.specs.Links.{IsOne}
use Rattle.asl_lock_expr.specs.Order.{AreInOrder}
use Rattle.asl_lock_expr.proofs.linked.add_all.Given as goal

abbrev pub invariant-loop-lock : goal.invariant-loop-lock
invariant-loop-lock l = record {
  order : AreInOrder l.list.items;
  locks : (n : Lock) → IsOne l.list.items n ↔ (IsOne l.initial.list.items n ⊎ IsOne l.yielded n);
}

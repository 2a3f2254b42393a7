use Rattle.std.proofs.Common.{◌↔◌, take}
use Rattle.asl_code.specs.declared.lock.Lock.{Lock}
use Rattle.asl_lock_expr.specs.Links.{IsOne}
use Rattle.asl_lock_expr.specs.Order.{AreInOrder}
use Rattle.asl_emitter.proofs.reduced.in_order.Given as goal

abbrev pub invariant-loop-lock : goal.invariant-loop-lock
invariant-loop-lock l = record {
  order : AreInOrder l.all.items;
  locks : (a : Lock) → IsOne l.all.items a ↔ IsOne (take l.lock-index l.given) a;
}

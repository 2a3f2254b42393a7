use Rattle.std.proofs.Common.{◌↔◌, take}
use Rattle.asl_code.specs.declared.lock.Lock.{Lock}
use Rattle.asl_lock_expr.specs.Links.{IsOne}
use Rattle.asl_lock_expr.specs.Order.{AreInOrder}
use Rattle.asl_emitter.specs.Lists.{IsFree}
use Rattle.asl_emitter.proofs.reduced.keep_free.Given as goal

abbrev pub invariant-loop-at : goal.invariant-loop-at
invariant-loop-at l = record {
  order : AreInOrder l.reduced.items;
  kept : (a : Lock) → IsOne l.reduced.items a ↔ (IsOne (take l.at l.given) a × IsFree l.classes l.function (IsOne l.given) a);
}

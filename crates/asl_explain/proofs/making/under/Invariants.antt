use Rattle.std.proofs.Common.{◌↔◌, take}
use Rattle.asl_code.specs.declared.lock.Lock.{Lock}
use Rattle.asl_lock_expr.specs.Links.{IsOne}
use Rattle.asl_lock_expr.specs.Order.{AreInOrder}
use Rattle.asl_soundness.specs.Covering.{CoversLock}
use Rattle.asl_explain.proofs.making.under.Given as goal

abbrev pub invariant-loop-other : goal.invariant-loop-other
invariant-loop-other l = record {
  locks : (n : Lock) → IsOne l.under.items n ↔ (IsOne (take l.other-index l.all) n × CoversLock l.classes l.function l.lock n);
  order : AreInOrder l.all → AreInOrder l.under.items;
}

use Rattle.std.proofs.Common.{◌≡◌, true, false, sym, subst, inl, inr}
use Rattle.asl_code.specs.declared.lock.Lock.{Lock}
use Rattle.asl_check.specs.Checked.{IsUnderOne}
use Rattle.asl_check.specs.KnownLists.{IsOnceMore}
use Rattle.asl_check.proofs.Bare.{kept_under, kept_again, kept_next, stand_next}
use Rattle.asl_check.proofs.bare_locks.bare_locks.Goals as goal

pub loop-lock-preserved-then-is_under_one : goal.loop-lock-preserved-then-is_under_one
loop-lock-preserved-then-is_under_one c = record {
  kept = kept_under c.args.classes.now c.args.function c.args.list.now c.args.locks.now c.loop-lock.lock-index c.lock-item.result c.loop-lock.bare.keys c.loop-lock-test.true (sym c.lock-item.is)
      c.loop-lock.invariant.kept (c.is_under_one.ensures.0 c.if-is_under_one.true);
  order = c.loop-lock.invariant.order;
}

pub loop-lock-preserved : goal.loop-lock-preserved
loop-lock-preserved c =
    let classes = c.args.classes.now in
    let locks = c.args.locks.now in
    let i = c.loop-lock.lock-index in
    let lock : Lock = c.lock-item.result in
    let old = c.loop-lock.bare.keys in
    let inv = c.loop-lock.invariant in
    let bare : ¬ IsUnderOne classes c.args.function c.args.list.now lock = λ u.
    (let under : c.is_under_one.result ≡ true = c.is_under_one.ensures.1 u in let not_under : c.is_under_one.result ≡ false = c.if-is_under_one.false in cc) in
    elim (subst (λ (l : Lock). IsOnceMore old l c.add_once.new.locks.keys) c.copied.ensures c.in_ok-add_once.ensures) [
      | inl again ↦ record {
        kept = rw again.1 (kept_again classes c.args.function c.args.list.now locks i lock old c.loop-lock-test.true (sym c.lock-item.is) inv.kept again.0);
        order = rw again.1 inv.order;
      }
      | inr next ↦ record {
        kept = rw next.1 (kept_next classes c.args.function c.args.list.now locks i lock old c.loop-lock-test.true (sym c.lock-item.is) inv.kept bare);
        order = rw next.1 (stand_next classes c.args.function c.args.list.now locks i lock old c.loop-lock-test.true (sym c.lock-item.is) inv.kept bare next.0 inv.order);
      }
    ]

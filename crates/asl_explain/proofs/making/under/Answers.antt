use Rattle.std.proofs.Common.{◌≡◌, ◌++◌, ◌∷◌, [], ◌∙◌, Vec, Global, List, true, false, ap, sym}
use Rattle.asl_code.specs.declared.lock.Lock.{Lock}
use Rattle.asl_soundness.specs.Covering.{CoversLock}
use Rattle.asl_explain.proofs.Under.{under_more, order_more, under_same, order_same, under_whole}
use Rattle.asl_explain.proofs.making.under.Goals as goal
use Rattle.asl_explain.proofs.making.under.Goals.{then-covers_lock+in_ok-copied+in_ok-push, else-covers_lock}

abbrev vec_items : Vec Lock Global → List Lock
vec_items v = v.items

pub loop-other-preserved : goal.loop-other-preserved
loop-other-preserved c =
    let before = c.loop-other.invariant in
    let Over : Lock → Type 0 = CoversLock c.args.classes.now c.args.function c.args.lock.now in
    elim c.if-covers_lock.branch [
      | then-covers_lock+in_ok-copied+in_ok-push w ↦
          (let at = ap vec_items w.under-is ∙ w.in_ok-push.ensures.items ∙ ap (λ (x : Lock). c.loop-other.under.items ++ x ∷ []) w.in_ok-copied.ensures in
          record {
            locks = under_more Over c.args.all.now c.loop-other.other-index c.other-item.result c.other-item.result c.loop-other-test.true (sym c.other-item.is)
                c.loop-other.under.items c.if-covers_lock.under.items at (c.covers_lock.ensures.0 w.if-covers_lock.true) before.locks;
            order = order_more Over c.args.all.now c.loop-other.other-index c.other-item.result c.other-item.result c.loop-other-test.true (sym c.other-item.is)
                c.loop-other.under.items c.if-covers_lock.under.items at before.locks before.order;
          })
      | else-covers_lock w ↦
          (let at = ap vec_items w.under-is in
          record {
            locks = under_same Over c.args.all.now c.loop-other.other-index c.other-item.result c.other-item.result c.loop-other-test.true (sym c.other-item.is)
                c.loop-other.under.items c.if-covers_lock.under.items at
                (λ h. (let t : c.covers_lock.result ≡ true = c.covers_lock.ensures.1 h in let n : c.covers_lock.result ≡ false = w.if-covers_lock.false in cc)) before.locks;
            order = order_same c.args.all.now c.loop-other.under.items c.if-covers_lock.under.items at before.order;
          })
    ]

pub returns-clause-locks : goal.returns-clause-locks
returns-clause-locks c = under_whole (CoversLock c.args.classes.now c.args.function c.args.lock.now) c.args.all.now c.loop-other.under.items c.loop-other.other-index c.loop-other-test.false c.loop-other.invariant.locks

pub returns-clause-order : goal.returns-clause-order
returns-clause-order c = c.loop-other.invariant.order

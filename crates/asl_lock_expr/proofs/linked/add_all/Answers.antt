use Rattle.std.proofs.Common.{inl, inr}
use Rattle.asl_lock_expr.proofs.Ones.{one_left, one_right, one_either}
use Rattle.asl_lock_expr.proofs.linked.add_all.Goals as goal

pub loop-lock-preserved : goal.loop-lock-preserved
loop-lock-preserved c =
    let before = c.loop-lock.invariant.locks in
    let placed = c.in_ok-add_in_order.ensures.locks in
    record {
      order = c.in_ok-add_in_order.ensures.order;
      locks = λ n. (
        λ o. elim ((placed n).0 o) [
          | inl p ↦ elim ((before n).0 p) [ inl q ↦ inl q | inr q ↦ inr (one_left _ _ n q) ]
          | inr e ↦ inr (one_right c.loop-lock.yielded _ n (inl e))
        ],
        λ o. elim o [
          | inl p ↦ (placed n).1 (inl ((before n).1 (inl p)))
          | inr q ↦ elim (one_either c.loop-lock.yielded _ n q) [
            | inl r ↦ (placed n).1 (inl ((before n).1 (inr r)))
            | inr r ↦ elim r [ inl e ↦ (placed n).1 (inr e) | inr z ↦ absurd z ]
          ]
        ],
      );
    }

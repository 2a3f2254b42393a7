use Rattle.std.proofs.Common.{◌≡◌, ◌↔◌, ◌<◌, ◌⊎◌, ◌+◌, ℕ, List, length, get_or, take, sym, ◌∙◌, inl, inr}
use Rattle.asl_code.specs.declared.lock.Lock.{Lock}
use Rattle.asl_lock_expr.specs.Links.{IsOne}
use Rattle.asl_emitter.proofs.Reducing.{one_of_more, more_of_one}
use Rattle.asl_emitter.proofs.reduced.in_order.Goals as goal

-- the first locks and the next one
placed_more : (given old new : List Lock) (n : ℕ) (d lock : Lock) → n < length given → get_or given n d ≡ lock →
    ((a : Lock) → IsOne new a ↔ (IsOne old a ⊎ (lock ≡ a))) → ((a : Lock) → IsOne old a ↔ IsOne (take n given) a) →
    (a : Lock) → IsOne new a ↔ IsOne (take (n + 1) given) a
placed_more given old new n d lock lt is placed before a = (
  λ o. elim ((placed a).0 o) [
    | inl p ↦ more_of_one given n d a lt (inl ((before a).0 p))
    | inr e ↦ more_of_one given n d a lt (inr (is ∙ e))
  ],
  λ o. elim (one_of_more given n d a lt o) [
    | inl p ↦ (placed a).1 (inl ((before a).1 p))
    | inr e ↦ (placed a).1 (inr (sym is ∙ e))
  ],
)

pub loop-lock-preserved : goal.loop-lock-preserved
loop-lock-preserved c =
    let before = c.loop-lock.invariant in
    let placed = c.in_ok-add_in_order.ensures in
    record {
      order = placed.order;
      locks = placed_more c.args.given.now c.loop-lock.all.items c.add_in_order.new.locks.items c.loop-lock.lock-index c.lock-item.result c.lock-item.result c.loop-lock-test.true (sym c.lock-item.is)
          (rw (← c.in_ok-copied.ensures) placed.locks) before.locks;
    }

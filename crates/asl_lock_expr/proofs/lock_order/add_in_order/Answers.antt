use Rattle.std.proofs.Common.{◌≡◌, List, sym, ap, ◌∙◌, subst, inl}
use Rattle.std.specs.Prelude.{insert}
use Rattle.asl_code.specs.declared.lock.Lock.{Lock}
use Rattle.asl_lock_expr.specs.Links.{IsOne}
use Rattle.asl_lock_expr.specs.Order.{AreInOrder}
use Rattle.asl_lock_expr.specs.Placing.{placed}
use Rattle.asl_lock_expr.proofs.Orders.{placed_ones, placed_from, placed_in_order}
use Rattle.asl_lock_expr.proofs.lock_order.add_in_order.Goals as goal

-- the list with the lock at its place
is_placed : (c : goal.In_ok-insert) → placed c.args.locks.now.items c.args.new ≡ c.insert.new.self.items
is_placed c =
    ap (λ (xs : List Lock). placed xs c.args.new) (sym c.deref.ensures.value)
    ∙ c.in-Some.ensures.place
    ∙ ap (λ (xs : List Lock). insert xs c.in-Some.place c.args.new) c.deref.ensures.value
    ∙ sym c.in_ok-insert.ensures.items

pub returns-in_ok-insert-clause-order : goal.returns-in_ok-insert-clause-order
returns-in_ok-insert-clause-order c =
    subst AreInOrder (is_placed c) (placed_in_order c.args.locks.now.items c.args.new c.requires)

pub returns-in_ok-insert-clause-locks : goal.returns-in_ok-insert-clause-locks
returns-in_ok-insert-clause-locks c n = (
  λ o. placed_ones c.args.locks.now.items c.args.new n (subst (λ (xs : List Lock). IsOne xs n) (sym (is_placed c)) o),
  λ o. subst (λ (xs : List Lock). IsOne xs n) (is_placed c) (placed_from c.args.locks.now.items c.args.new n o),
)

pub returns-in_default-clause-locks : goal.returns-in_default-clause-locks
returns-in_default-clause-locks c n =
    let same : placed c.args.locks.now.items c.args.new ≡ c.args.locks.now.items = ap (λ (xs : List Lock). placed xs c.args.new) (sym c.deref.ensures.value) ∙ c.in_default.ensures.there ∙ c.deref.ensures.value in
    (λ o. inl o, λ o. subst (λ (xs : List Lock). IsOne xs n) same (placed_from c.args.locks.now.items c.args.new n o))

use Rattle.std.proofs.Common.{◌≡◌, ◌∙◌, ◌+◌, ◌-◌, ◌/◌, ◌<◌, ◌≤◌, ℕ, length, get_or, ap, sym, arith}
use Rattle.std.specs.declared.cmp.Ordering.TheVariants.{Less, Equal, Greater}
use Rattle.asl_code.specs.declared.lock.Lock.{Lock}
use Rattle.asl_lock_expr.specs.Order.{lock_cmp}
use Rattle.asl_lock_expr.proofs.Orders.{read_alike, lower_before, higher_behind, equal_there, placed_at}
use Rattle.asl_lock_expr.proofs.lock_order.place.Goals as goal

pub loop-low-preserved : goal.loop-low-preserved
loop-low-preserved c =
    let so = c.loop-low.invariant in
    let high = so.high in
    let middle = c.probed-middle.result in
    let above = c.probed-middle.ensures.above in
    let below = c.probed-middle.ensures.below in
    let there : middle < length c.args.locks.now = omega (arith, below, high) in
    let here : (d : Lock) → lock_cmp (get_or c.args.locks.now middle d) c.args.new.now ≡ Greater =
    λ d. ap (λ (x : Lock). lock_cmp x c.args.new.now) (read_alike c.args.locks.now middle d c.index-locks-middle.result there ∙ sym c.index-locks-middle.is) ∙ sym c.compare.ensures ∙ c.in-Greater.is in
    record {
      low = omega (arith, above);
      high = omega (arith, there);
      before = so.before;
      after = λ k d ge lt. higher_behind c.args.locks.now c.args.new.now d middle c.requires (here d) k ge lt;
    }

pub loop-low-preserved-in-Less : goal.loop-low-preserved-in-Less
loop-low-preserved-in-Less c =
    let so = c.loop-low.invariant in
    let high = so.high in
    let middle = c.probed-middle.result in
    let above = c.probed-middle.ensures.above in
    let below = c.probed-middle.ensures.below in
    let there : middle < length c.args.locks.now = omega (arith, below, high) in
    let here : (d : Lock) → lock_cmp (get_or c.args.locks.now middle d) c.args.new.now ≡ Less =
    λ d. ap (λ (x : Lock). lock_cmp x c.args.new.now) (read_alike c.args.locks.now middle d c.index-locks-middle.result there ∙ sym c.index-locks-middle.is) ∙ sym c.compare.ensures ∙ c.in-Less.is in
    record {
      low = omega (arith, below);
      high = so.high;
      before = λ k d lt. lower_before c.args.locks.now c.args.new.now d middle c.requires there (here d) k lt;
      after = so.after;
    }

pub returns-in-Equal-clause-there : goal.returns-in-Equal-clause-there
returns-in-Equal-clause-there c =
    let high = c.loop-low.invariant.high in
    let middle = c.probed-middle.result in
    let above = c.probed-middle.ensures.above in
    let below = c.probed-middle.ensures.below in
    let there : middle < length c.args.locks.now = omega (arith, below, high) in
    equal_there c.args.locks.now c.args.new.now c.index-locks-middle.result middle c.requires there
    (ap (λ (x : Lock). lock_cmp x c.args.new.now) (sym c.index-locks-middle.is) ∙ sym c.compare.ensures ∙ c.in-Equal.is)

pub returns : goal.returns
returns c =
    let end = c.loop-low-test.false in
    let so = c.loop-low.invariant in
    let high = so.high in
    let le = so.low in
    record {
      bound = omega (arith, le, high);
      place = placed_at c.args.locks.now c.args.new.now c.loop-low.low c.args.new.now (omega (arith, le, high)) (λ k lt. so.before k c.args.new.now lt) (λ k ge lt. so.after k c.args.new.now (omega (arith, end, ge)) lt);
      there = tt;
    }

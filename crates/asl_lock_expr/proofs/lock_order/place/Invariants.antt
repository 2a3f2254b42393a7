use Rattle.std.proofs.Common.{◌≡◌, ◌≤◌, ◌<◌, ◌-◌, ℕ, length, get_or}
use Rattle.std.specs.declared.cmp.Ordering.TheVariants.{Less, Greater}
use Rattle.asl_code.specs.declared.lock.Lock.{Lock}
use Rattle.asl_lock_expr.specs.Order.{lock_cmp}
use Rattle.asl_lock_expr.proofs.lock_order.place.Given as goal

-- the locks before come before the new one, and those after come after it
abbrev pub invariant-loop-low : goal.invariant-loop-low
invariant-loop-low l = record {
  low : l.low ≤ l.high;
  high : l.high ≤ length l.locks;
  before : (k : ℕ) (d : Lock) → k < l.low → lock_cmp (get_or l.locks k d) l.new ≡ Less;
  after : (k : ℕ) (d : Lock) → l.high ≤ k → k < length l.locks → lock_cmp (get_or l.locks k d) l.new ≡ Greater;
}

abbrev pub decreases-loop-low : goal.decreases-loop-low
decreases-loop-low l = l.high - l.low

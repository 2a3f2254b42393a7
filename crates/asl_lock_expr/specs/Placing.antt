-- Machinery of the proofs, not of the promise: a lock put at its place in a list in order (src/lock_order.rt).
use Rattle.std.specs.Prelude.{List, [], ◌∷◌}
use Rattle.std.specs.declared.cmp.Ordering.{Ordering}
use Rattle.std.specs.declared.cmp.Ordering.TheVariants.{Less, Equal, Greater}
use Rattle.asl_code.specs.declared.lock.Lock.{Lock}
use Rattle.asl_lock_expr.specs.Order.{lock_cmp}

-- the lock before or after a list with this first lock, which compares so with it
abbrev pub placed_by : Ordering → Lock → List Lock → Lock → List Lock → List Lock
placed_by Less m ms n later = m ∷ later
placed_by Equal m ms n later = m ∷ ms
placed_by Greater m ms n later = n ∷ m ∷ ms

-- the list, which is in order, with the lock at its place; the list as it is, if it has the lock
abbrev pub placed : List Lock → Lock → List Lock
placed [] n = n ∷ []
placed (m ∷ ms) n = placed_by (lock_cmp m n) m ms n (placed ms n)

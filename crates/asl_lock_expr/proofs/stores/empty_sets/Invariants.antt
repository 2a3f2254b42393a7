use Rattle.std.proofs.Common.{◌≡◌, replicate, false}
use Rattle.asl_lock_expr.proofs.stores.empty_sets.Given as goal

abbrev pub invariant-loop : goal.invariant-loop
invariant-loop l = l.sets.items ≡ replicate l.counter (replicate l.len false)

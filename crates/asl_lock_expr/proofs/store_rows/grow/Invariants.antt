use Rattle.std.proofs.Common.{◌≡◌, ◌≤◌, ℕ, length}
use Rattle.asl_lock_expr.specs.Storing.{row}
use Rattle.asl_lock_expr.proofs.store_rows.grow.Given as goal

abbrev pub invariant-loop : goal.invariant-loop
invariant-loop l = record {
  rows : (a : ℕ) → row l.rows.items a ≡ row l.initial.rows.items a;
  many : length l.rows.items ≡ l.counter;
  few : length l.initial.rows.items ≤ 65536 → length l.rows.items ≤ 65536;
}

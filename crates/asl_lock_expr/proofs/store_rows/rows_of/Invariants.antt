use Rattle.std.proofs.Common.{◌≡◌, ◌≤◌, length}
use Rattle.asl_lower.specs.OpenSections.{start_of}
use Rattle.asl_lock_expr.specs.Storing.{stored_class, called, AreListed}
use Rattle.asl_lock_expr.proofs.store_rows.rows_of.Given as goal

abbrev pub invariant-loop-number : goal.invariant-loop-number
invariant-loop-number l = record {
  here : l.end ≡ start_of l.lowering.functions l.number;
  stores : AreListed (stored_class l.classes) l.lowering l.end l.rows.stores.items;
  calls : AreListed (λ _. called) l.lowering l.end l.rows.callers.items;
  few : length l.rows.stores.items ≤ 65536;
}

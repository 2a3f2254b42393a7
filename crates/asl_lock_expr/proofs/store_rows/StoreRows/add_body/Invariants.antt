use Rattle.std.proofs.Common.{◌≤◌, length}
use Rattle.asl_lock_expr.specs.Storing.{stored_class, called, AreListed}
use Rattle.asl_lock_expr.proofs.store_rows.StoreRows.add_body.Given as goal

abbrev pub invariant-loop-pc : goal.invariant-loop-pc
invariant-loop-pc l = record {
  from_start : l.start ≤ l.pc;
  to_end : l.pc ≤ l.end;
  stores : AreListed (stored_class l.classes) l.lowering l.start l.initial.self.stores.items → AreListed (stored_class l.classes) l.lowering l.pc l.self.stores.items;
  calls : AreListed (λ _. called) l.lowering l.start l.initial.self.callers.items → AreListed (λ _. called) l.lowering l.pc l.self.callers.items;
  few : length l.initial.self.stores.items ≤ 65536 → length l.self.stores.items ≤ 65536;
  few_calls : length l.initial.self.callers.items ≤ 65536 → length l.self.callers.items ≤ 65536;
}

use Rattle.std.proofs.Common.{take}
use Rattle.asl_lock_expr.specs.Storing.{MarksAll}
use Rattle.asl_lock_expr.proofs.stores.StoreSearch.mark_all.Given as goal

abbrev pub invariant-loop-function : goal.invariant-loop-function
invariant-loop-function l = MarksAll (take l.function-index l.functions) l.initial.self.marks.items l.self.marks.items l.initial.self.waiting.items l.self.waiting.items

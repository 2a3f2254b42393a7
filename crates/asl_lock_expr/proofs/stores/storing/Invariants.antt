use Rattle.std.proofs.Common.{◌+◌, length}
use Rattle.asl_lock_expr.specs.Storing.{unmarked}
use Rattle.asl_lock_expr.proofs.Searches.{IsSearch}
use Rattle.asl_lock_expr.proofs.stores.storing.Given as goal

abbrev pub invariant-loop-function : goal.invariant-loop-function
invariant-loop-function l = IsSearch l.count l.callers l.listed l.search.marks.items l.search.waiting.items

abbrev pub decreases-loop-function : goal.decreases-loop-function
decreases-loop-function l = unmarked l.search.marks.items + length l.search.waiting.items

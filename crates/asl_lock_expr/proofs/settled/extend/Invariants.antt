use Rattle.std.proofs.Common.{◌≡◌, ◌++◌, take}
use Rattle.asl_lock_expr.proofs.settled.extend.Given as goal

abbrev pub invariant-loop-op : goal.invariant-loop-op
invariant-loop-op l = l.path ≡ l.initial.path ++ take l.op-index l.ops

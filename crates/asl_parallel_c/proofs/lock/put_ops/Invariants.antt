use Rattle.std.proofs.Common.{◌≡◌, ◌++◌, drop}
use Rattle.asl_parallel_c.specs.Lists.{ops_text}
use Rattle.asl_parallel_c.proofs.lock.put_ops.Given as goal

abbrev pub invariant-loop-op : goal.invariant-loop-op
invariant-loop-op g l = l.text.items ++ ops_text (drop l.op-index l.ops) ≡ l.fn.text.items ++ ops_text l.ops

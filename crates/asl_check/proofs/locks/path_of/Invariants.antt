use Rattle.std.proofs.Common.{◌≡◌, take}
use Rattle.asl_check.proofs.locks.path_of.Given as goal

abbrev pub invariant-loop-op : goal.invariant-loop-op
invariant-loop-op l = l.path ≡ take l.op-index l.ops

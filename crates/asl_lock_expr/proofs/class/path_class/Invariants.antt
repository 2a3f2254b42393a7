use Rattle.std.proofs.Common.{◌≡◌, drop}
use Rattle.asl_lock_expr.specs.ClassOf.{path_class}
use Rattle.asl_lock_expr.proofs.class.path_class.Given as goal

abbrev pub invariant-loop-op : goal.invariant-loop-op
invariant-loop-op l = path_class l.classes (drop l.op-index l.ops) l.class ≡ path_class l.classes l.ops l.fn.start

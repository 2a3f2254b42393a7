use Rattle.std.proofs.Common.{◌≡◌, take}
use Rattle.std.specs.List.{flat_map}
use Rattle.asl_lock_expr.specs.Links.{dereferenced}
use Rattle.asl_lock_expr.proofs.linked.prefixes.Given as goal

abbrev pub invariant-loop-lock : goal.invariant-loop-lock
invariant-loop-lock l = l.prefixes.items ≡ flat_map dereferenced (take l.lock-index l.locks)

use Rattle.std.proofs.Common.{◌≡◌, ◌++◌, [], drop, take}
use Rattle.asl_lock_expr.specs.Links.{HasGrown, prefixes}
use Rattle.asl_lock_expr.proofs.accesses.add_prefixes.Given as goal

abbrev pub invariant-loop-i : goal.invariant-loop-i
invariant-loop-i l =
    (l.into.items ++ prefixes l.expr.base (take l.i l.ops) (drop l.i l.ops)
    ≡ l.initial.into.items ++ prefixes l.expr.base [] l.expr.path)
    × HasGrown l.initial.into.items l.into.items

use Rattle.std.proofs.Common.{◌≡◌, ◌++◌, drop}
use Rattle.std.specs.List.{flat_map}
use Rattle.asl_points_to.specs.Classes.{to}
use Rattle.asl_lock_expr.specs.ClassOf.{base_class}
use Rattle.asl_lock_expr.specs.Links.{HasGrown, hits, settle}
use Rattle.asl_lock_expr.specs.LinksView.{seen}
use Rattle.asl_lock_expr.proofs.link.add_hits.Given as goal

abbrev pub invariant-loop-i : goal.invariant-loop-i
invariant-loop-i l =
    let c = l.view.classes.now in
    let class = to c l.view.function l.address in
    (l.into.items ++ flat_map (settle (seen l.view)) (hits c class l.from l.effect l.class (drop l.i l.ops))
    ≡ l.initial.into.items ++ flat_map (settle (seen l.view)) (hits c class l.from l.effect (base_class c l.view.function l.expr.base) l.expr.path))
    × HasGrown l.initial.into.items l.into.items

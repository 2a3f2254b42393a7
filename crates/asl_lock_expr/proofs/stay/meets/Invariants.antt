use Rattle.std.proofs.Common.{◌≡◌, drop}
use Rattle.asl_points_to.specs.Classes.{to}
use Rattle.asl_lock_expr.specs.ClassOf.{base_class}
use Rattle.asl_lock_expr.specs.Meeting.{meets}
use Rattle.asl_lock_expr.proofs.stay.meets.Given as goal

abbrev pub invariant-loop-op : goal.invariant-loop-op
invariant-loop-op l =
    let c = l.view.classes.now in
    let hit = to c l.view.function l.address in
    meets c hit l.class (drop l.op-index l.op-items) ≡ meets c hit (base_class c l.view.function l.expr.base) l.expr.path

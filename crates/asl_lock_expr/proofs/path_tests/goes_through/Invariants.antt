use Rattle.std.proofs.Common.{◌≡◌, drop}
use Rattle.asl_lock_expr.specs.ClassOf.{base_class}
use Rattle.asl_lock_expr.specs.Links.{goes_through}
use Rattle.asl_lock_expr.specs.Stores.{stores}
use Rattle.asl_lock_expr.proofs.path_tests.goes_through.Given as goal

abbrev pub invariant-loop-op : goal.invariant-loop-op
invariant-loop-op l =
    let c = l.view.classes.now in
    let written = stores l.view.writes.now l.callee in
    goes_through c written l.class (drop l.op-index l.op-items) ≡ goes_through c written (base_class c l.view.function l.expr.base) l.expr.path

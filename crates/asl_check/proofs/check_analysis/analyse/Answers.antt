use Rattle.std.proofs.lemmas.Result.{err_from_is_err_and}
use Rattle.asl_syntax.specs.AstView.{tree_of}
use Rattle.asl_emitter.proofs.Refusing.{is_lowered, classes_refused, flow_refused, is_accepted}
use Rattle.asl_check.proofs.check_analysis.analyse.Goals as goal

pub returns-clause-accepted : goal.returns-clause-accepted
returns-clause-accepted c =
    let low = c.in_ok-lowering.ensures in
    is_accepted (tree_of c.args.ast.now) c.args.k c.in_ok-lowering.lowering c.in_ok-classes.classes c.in_ok-flow.flow
    (is_lowered (tree_of c.args.ast.now) c.in_ok-lowering.lowering low.lowering low.room low.inside)
    low.lowering c.in_ok-classes.ensures.classes c.in_ok-classes.ensures.few c.in_ok-flow.ensures.flow

pub returns-in_err-classes-clause-refused : goal.returns-in_err-classes-clause-refused
returns-in_err-classes-clause-refused c =
    let p = err_from_is_err_and c.from_residual-in_err-classes.result c.from_residual-in_err-classes.ensures.1 in
    let low = c.in_ok-lowering.ensures in
    rw (p.1, p.2) (classes_refused (tree_of c.args.ast.now) c.args.k c.in_ok-lowering.lowering c.in_err-classes.field-0.0
    (is_lowered (tree_of c.args.ast.now) c.in_ok-lowering.lowering low.lowering low.room low.inside) low.lowering c.in_err-classes.ensures.refused)

pub returns-in_err-flow-clause-refused : goal.returns-in_err-flow-clause-refused
returns-in_err-flow-clause-refused c =
    let p = err_from_is_err_and c.from_residual-in_err-flow.result c.from_residual-in_err-flow.ensures.1 in
    let low = c.in_ok-lowering.ensures in
    rw (p.1, p.2) (flow_refused (tree_of c.args.ast.now) c.args.k c.in_ok-lowering.lowering c.in_ok-classes.classes c.in_err-flow.field-0.0
    (is_lowered (tree_of c.args.ast.now) c.in_ok-lowering.lowering low.lowering low.room low.inside) low.lowering c.in_ok-classes.ensures.classes c.in_ok-classes.ensures.few c.in_err-flow.ensures.refused)

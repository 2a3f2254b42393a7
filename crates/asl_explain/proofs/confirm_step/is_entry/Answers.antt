use Rattle.std.proofs.Common.{rules, ◌≡◌}
use Rattle.asl_backward_flow.specs.declared.region.Region.TheVariants.{Body}
use Rattle.asl_lock_expr.specs.LinksView.{seen}
use Rattle.asl_explain.proofs.Confirming.{entry_of, some_holds}
use Rattle.asl_explain.proofs.confirm_step.is_entry.Goals as goal

pub returns-clause-step : goal.returns-clause-step
returns-clause-step c =
    let same : c.args.before.now.region ≡ Body c.in-Call.function = search (rules, c.if-ne.false) in
    entry_of c.args.analysis.now c.args.before.now c.args.step.now c.in-Some.here.function c.in-Call.to c.in-Call.first c.in-Call.function c.in-Some-2.params c.in-Some.here.instr c.in-Some.ensures c.in-Call.is same
    (some_holds _ c.in_ok-params.field-0 c.in-Some-2.params c.in-Some-2.is c.in_ok-params.ensures.params) (seen c.view-view.result) c.view-view.ensures c.is_entered.result c.is_entered.ensures

use Rattle.std.proofs.Common.{refl}
use Rattle.asl_backward_flow.specs.Found.{table}
use Rattle.asl_backward_flow.specs.Follows.{read}
use Rattle.asl_backward_flow.proofs.Fronts.{such_ok, such_err}
use Rattle.asl_backward_flow.proofs.Points.{stands_at, linked_list}
use Rattle.asl_backward_flow.proofs.needs_step.add_link.Goals as goal

pub returns-clause-ok : goal.returns-clause-ok
returns-clause-ok c =
    let is = linked_list (read c.args.analysis.now) c.args.part c.args.pc _ _
    (stands_at c.args.analysis.now.spans.now c.args.analysis.now.spans.now c.from.result c.args.part _ refl c.from.ensures c.requires.there)
    (stands_at c.args.analysis.now.lowering.now.code c.code.result.now c.from-2.result c.args.pc _ c.code.ensures.code c.from-2.ensures c.requires.code)
    _ c.view.ensures c.args.lock.now _ _ c.clear.ensures.items c.in_ok-add_links.ensures.ok in
    such_ok (table c.args.found.now) (table c.add_with_prefixes.new.found) c.args.part c.args.pc _ _ is (read c.args.analysis.now) c.add_with_prefixes.result c.add_with_prefixes.ensures.ok

pub returns-clause-err : goal.returns-clause-err
returns-clause-err c =
    let is = linked_list (read c.args.analysis.now) c.args.part c.args.pc _ _
    (stands_at c.args.analysis.now.spans.now c.args.analysis.now.spans.now c.from.result c.args.part _ refl c.from.ensures c.requires.there)
    (stands_at c.args.analysis.now.lowering.now.code c.code.result.now c.from-2.result c.args.pc _ c.code.ensures.code c.from-2.ensures c.requires.code)
    _ c.view.ensures c.args.lock.now _ _ c.clear.ensures.items c.in_ok-add_links.ensures.ok in
    such_err (table c.args.found.now) (table c.add_with_prefixes.new.found) c.args.part c.args.pc _ _ is c.add_with_prefixes.result c.add_with_prefixes.ensures.err

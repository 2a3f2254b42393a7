use Rattle.std.proofs.Common.{◌∙◌, length, map, ap, sym, arith, subst}
use Rattle.asl_backward_flow.specs.Graph.{HasRows, HasCall}
use Rattle.asl_backward_flow.proofs.Rows.{rows_begin, as_many_empty}
use Rattle.asl_backward_flow.proofs.graph.regions.Goals as goal

pub loop-part-init : goal.loop-part-init
loop-part-init c = (
  rows_begin (map (λ r. r.items) c.in_ok-rows.rows.items) (length c.code.result.now) (HasCall c.args.lowering.now c.args.spans.now) c.in_ok-rows.ensures,
  sym (ap length c.code.ensures.code) ∙ as_many_empty (λ r. r.items) c.in_ok-rows.rows.items (length c.code.result.now) c.in_ok-rows.ensures,
)

pub loop-part-preserved : goal.loop-part-preserved
loop-part-preserved c = (c.in_ok-add_region.ensures.rows, (let was = c.loop-part.invariant.1 in let count = c.in_ok-add_region.ensures.count in omega (arith, was, count)))

pub returns : goal.returns
returns c =
    let end = c.loop-part-test.false in
    let at = c.loop-part.auto.part-end in
    subst (HasRows (map (λ r. r.items) c.loop-part.rows.items) (HasCall c.args.lowering.now c.args.spans.now)) (omega arith) c.loop-part.invariant.0

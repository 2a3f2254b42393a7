use Rattle.std.proofs.Common.{◌∙◌, length, map, ap, sym, subst, arith}
use Rattle.asl_backward_flow.specs.Graph.{HasRows, IsJump}
use Rattle.asl_backward_flow.proofs.Rows.{rows_begin, as_many_empty}
use Rattle.asl_backward_flow.proofs.graph.jumps.Goals as goal

pub loop-pc-init : goal.loop-pc-init
loop-pc-init c = (
  rows_begin (map (λ r. r.items) c.in_ok-rows.rows.items) (length c.code-count.result.now) (IsJump c.args.lowering.now) c.in_ok-rows.ensures,
  sym (ap length c.code-count.ensures.code) ∙ as_many_empty (λ r. r.items) c.in_ok-rows.rows.items (length c.code-count.result.now) c.in_ok-rows.ensures,
)

pub loop-pc-preserved : goal.loop-pc-preserved
loop-pc-preserved c = (c.in_ok-add_jump.ensures.rows, (let was = c.loop-pc.invariant.1 in let count = c.in_ok-add_jump.ensures.count in omega (arith, was, count)))

pub returns-clause-rows : goal.returns-clause-rows
returns-clause-rows c =
    let end = c.loop-pc-test.false in
    let at = c.loop-pc.auto.pc-end in
    let same = ap length c.code-count.ensures.code in
    subst (HasRows (map (λ r. r.items) c.loop-pc.rows.items) (IsJump c.args.lowering.now)) (omega arith) c.loop-pc.invariant.0

use Rattle.std.proofs.Common.{◌∙◌, sym, eqb-true, eq-eqb, arith}
use Rattle.asl_backward_flow.proofs.Points.{stands_at}
use Rattle.asl_backward_flow.proofs.JumpRows.{edge_by_jump, edge_nowhere, edge_to_next}
use Rattle.asl_backward_flow.proofs.graph.goes_on.Goals as goal

pub returns-then-may_jump_to : goal.returns-then-may_jump_to
returns-then-may_jump_to c =
    edge_by_jump c.args.lowering.now c.args.pc c.args.to _ (stands_at c.args.lowering.now.code c.code.result.now c.from.result c.args.pc _ c.code.ensures.code c.from.ensures c.requires) (c.may_jump_to.ensures.0 c.if-may_jump_to.true)

pub returns-then-not-goes_to_next : goal.returns-then-not-goes_to_next
returns-then-not-goes_to_next c =
    edge_nowhere c.args.lowering.now c.args.pc c.args.to _ (stands_at c.args.lowering.now.code c.code.result.now c.from.result c.args.pc _ c.code.ensures.code c.from.ensures c.requires)
    (λ j. (let yes = c.may_jump_to.ensures.1 j in let no = c.if-may_jump_to.false in cc))
    (sym c.goes_to_next.ensures ∙ c.if-not-goes_to_next.true)

pub returns : goal.returns
returns c =
    edge_to_next c.args.lowering.now c.args.pc c.args.to _ (stands_at c.args.lowering.now.code c.code.result.now c.from.result c.args.pc _ c.code.ensures.code c.from.ensures c.requires)
    (λ j. (let yes = c.may_jump_to.ensures.1 j in let no = c.if-may_jump_to.false in cc))
    (sym c.goes_to_next.ensures ∙ c.if-not-goes_to_next.false) _
    (λ e. (let is = eqb-true _ _ e in let one = c.from-2.ensures in let two = c.from-3.ensures in omega (arith, is, one, two)))
    (λ is. eq-eqb _ _ (let one = c.from-2.ensures in let two = c.from-3.ensures in omega (arith, is, one, two)))

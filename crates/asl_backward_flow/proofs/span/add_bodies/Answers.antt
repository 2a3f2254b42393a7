use Rattle.std.proofs.Common.{Vec, Global, List, ◌+◌, ◌∙◌, length, ap, sym, subst, arith}
use Rattle.asl_backward_flow.specs.Spans.{AreBodies}
use Rattle.asl_backward_flow.proofs.SpanLaws.{bodies_begin, bodies_more, bodies_skip, all_spans, all_closed, marked_at, not_marked}
use Rattle.asl_backward_flow.proofs.span.add_bodies.Goals.{then-inner-number+in_ok-push, else-inner-number}
use Rattle.asl_backward_flow.proofs.span.add_bodies.Goals as goal

abbrev vec_items : {A : Type 0} → Vec A Global → List A
vec_items v = v.items

pub loop-number-init : goal.loop-number-init
loop-number-init c = bodies_begin c.args.lowering.now c.args.spans.now.items c.requires

pub bounds-inner-number : goal.bounds-inner-number
bounds-inner-number c =
    let few = c.functions-number-end.ensures.kept.layout.limits.few_functions in
    let same = ap length c.functions-number-end.ensures.functions in
    let lt = c.loop-number-test.true in
    omega arith

pub body_span-requires-clause-inner : goal.body_span-requires-clause-inner
body_span-requires-clause-inner c =
    (c.inner-inner.ensures c.loop-number.number).0 (marked_at c.inner-inner.result c.loop-number.number c.if-inner-number.true)

pub loop-number-preserved : goal.loop-number-preserved
loop-number-preserved c =
    elim c.if-inner-number.branch [
      | then-inner-number+in_ok-push w ↦
          subst (λ spans. AreBodies c.args.lowering.now spans (c.loop-number.number + 1)) (sym w.in_ok-push.ensures.items ∙ ap vec_items (sym w.spans-is))
          (bodies_more c.args.lowering.now c.loop-number.spans.items w.body_span.result c.loop-number.number c.loop-number.invariant w.body_span.ensures.span w.body_span.ensures.region)
      | else-inner-number w ↦
          subst (λ spans. AreBodies c.args.lowering.now spans (c.loop-number.number + 1)) (ap vec_items (sym w.spans-is))
          (bodies_skip c.args.lowering.now c.loop-number.spans.items c.loop-number.number c.loop-number.invariant
          (λ inner. not_marked c.inner-inner.result c.loop-number.number w.if-inner-number.false ((c.inner-inner.ensures c.loop-number.number).1 inner)))
    ]

pub returns-clause-all : goal.returns-clause-all
returns-clause-all c =
    let end = c.loop-number-test.false in
    let same = ap length c.functions-number-end.ensures.functions in
    all_spans c.args.lowering.now c.functions-number-end.ensures.kept c.loop-number.spans.items
    (subst (AreBodies c.args.lowering.now c.loop-number.spans.items) (let at = c.loop-number.auto.number-end in omega arith) c.loop-number.invariant)

pub returns-clause-closed : goal.returns-clause-closed
returns-clause-closed c = all_closed c.args.lowering.now c.loop-number.spans.items (returns-clause-all c)

use Rattle.std.proofs.Common.{sym, subst, ◌+◌}
use Rattle.asl_backward_flow.specs.Spans.{AreSections}
use Rattle.asl_backward_flow.proofs.SpanLaws.{sections_more}
use Rattle.asl_backward_flow.proofs.span.add_sections.Goals as goal

pub loop-number-preserved : goal.loop-number-preserved
loop-number-preserved c =
    subst (λ spans. AreSections c.args.lowering.now spans (c.loop-number.number + 1)) (sym c.in_ok-push.ensures.items)
    (sections_more c.args.lowering.now c.loop-number.spans.items c.section_span.result c.loop-number.number c.loop-number.invariant c.section_span.ensures.span c.section_span.ensures.region)

use Rattle.asl_backward_flow.specs.Spans.{AreSections}
use Rattle.asl_backward_flow.proofs.span.add_sections.Given as goal

abbrev pub invariant-loop-number : goal.invariant-loop-number
invariant-loop-number l = AreSections l.lowering l.spans.items l.number

use Rattle.asl_backward_flow.specs.Spans.{AreBodies}
use Rattle.asl_backward_flow.proofs.span.add_bodies.Given as goal

abbrev pub invariant-loop-number : goal.invariant-loop-number
invariant-loop-number l = AreBodies l.lowering l.spans.items l.number

use Rattle.asl_backward_flow.proofs.Blanks.{AreMade}
use Rattle.asl_backward_flow.proofs.found.Found.new.Given as goal

abbrev pub invariant-loop-span : goal.invariant-loop-span
invariant-loop-span l = AreMade l.spans l.span-index l.parts.items

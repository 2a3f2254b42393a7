use Rattle.asl_explain.specs.Analysed.{read, AreEndedBelow}
use Rattle.asl_explain.proofs.ended.ended_of_sections.Given as goal

abbrev pub invariant-loop-number : goal.invariant-loop-number
invariant-loop-number l = AreEndedBelow (read l.analysis) l.number l.sections.items

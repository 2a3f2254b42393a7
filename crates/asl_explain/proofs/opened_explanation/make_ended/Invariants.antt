use Rattle.asl_explain.specs.Analysed.{read}
use Rattle.asl_explain.specs.Opened.{HasEndedBelow}
use Rattle.asl_explain.proofs.opened_explanation.make_ended.Given as goal

abbrev pub invariant-loop-number : goal.invariant-loop-number
invariant-loop-number l = HasEndedBelow (read l.analysis) l.number

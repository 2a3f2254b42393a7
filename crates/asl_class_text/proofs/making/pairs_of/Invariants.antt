use Rattle.asl_class_text.specs.Classes.{AreOthers}
use Rattle.asl_class_text.proofs.making.pairs_of.Given as goal

abbrev pub invariant-loop-second : goal.invariant-loop-second
invariant-loop-second l = AreOthers l.facts.lowering l.reasons.steps l.first l.others l.second-index l.pairs.items

-- the chains of so many grounds were gone through
use Rattle.asl_class_text.specs.Made.{AreGroundsGone}
use Rattle.asl_class_text.proofs.grounds.grounds_of.Given as goal

abbrev pub invariant-loop-number : goal.invariant-loop-number
invariant-loop-number l = AreGroundsGone l.facts.lowering l.reasons.steps l.most l.pairs l.number l.grounds

-- the chains of so many pairs were gone through
use Rattle.asl_class_text.specs.Made.{ArePairsGone}
use Rattle.asl_class_text.proofs.grounds.pairs_grounds.Given as goal

abbrev pub invariant-loop-pair : goal.invariant-loop-pair
invariant-loop-pair l = ArePairsGone l.facts.lowering l.reasons.steps l.most l.pairs l.pair-index l.grounds

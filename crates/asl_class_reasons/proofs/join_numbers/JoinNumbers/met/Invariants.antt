-- the steps so far have their places in one tree
use Rattle.asl_class_reasons.specs.Following.{AreInTrees}
use Rattle.asl_class_reasons.proofs.join_numbers.JoinNumbers.met.Given as goal

abbrev pub invariant-loop-index : goal.invariant-loop-index
invariant-loop-index l = AreInTrees l.self l.draft.members l.draft.steps.items l.index

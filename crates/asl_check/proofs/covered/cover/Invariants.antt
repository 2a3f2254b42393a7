use Rattle.asl_check.specs.KnownLists.{AreCovered}
use Rattle.asl_check.proofs.covered.cover.Given as goal

abbrev pub invariant-loop-number : goal.invariant-loop-number
invariant-loop-number l = AreCovered l.lowering l.classes l.flow l.lists l.number

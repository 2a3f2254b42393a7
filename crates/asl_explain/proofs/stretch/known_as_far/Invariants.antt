use Rattle.asl_explain.proofs.stretch.known_as_far.Given as goal

abbrev pub invariant-loop-stretch : goal.invariant-loop-stretch
invariant-loop-stretch l = Unit {0}

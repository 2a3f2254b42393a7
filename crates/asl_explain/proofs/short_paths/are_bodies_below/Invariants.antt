use Rattle.asl_explain.specs.Lengths.{AreBodiesBelow}
use Rattle.asl_explain.proofs.short_paths.are_bodies_below.Given as goal

abbrev pub invariant-loop-number : goal.invariant-loop-number
invariant-loop-number l = AreBodiesBelow l.flow l.limit l.number

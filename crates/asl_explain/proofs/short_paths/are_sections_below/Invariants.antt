use Rattle.asl_explain.specs.Lengths.{AreSectionsBelow}
use Rattle.asl_explain.proofs.short_paths.are_sections_below.Given as goal

abbrev pub invariant-loop-number : goal.invariant-loop-number
invariant-loop-number l = AreSectionsBelow l.flow l.limit l.number

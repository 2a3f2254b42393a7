-- the parameters so far
use Rattle.std.proofs.Common.{◌≡◌, take}
use Rattle.asl_lower.specs.NamesView.{names_of}
use Rattle.asl_lower.proofs.functions.locals_of.Given as goal

abbrev pub invariant-loop-parameter : goal.invariant-loop-parameter
invariant-loop-parameter l = names_of l.locals.items ≡ take l.parameter-index l.function.parameters.items

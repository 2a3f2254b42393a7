use Rattle.asl_syntax.proofs.WithinLimits.{limits_of_tree}
use Rattle.asl_syntax.proofs.laws.limits_are_of_the_tree.Goals as goal

pub returns : goal.returns
returns c = limits_of_tree

use Rattle.asl_syntax.proofs.Spaced.{writing_spells}
use Rattle.asl_syntax.proofs.laws.a_printed_tree_is_spelled.Goals as goal

pub returns : goal.returns
returns c = writing_spells

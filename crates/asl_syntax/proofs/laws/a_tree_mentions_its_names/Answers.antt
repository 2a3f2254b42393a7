use Rattle.asl_syntax.proofs.Mentioned.{mentioned}
use Rattle.asl_syntax.proofs.laws.a_tree_mentions_its_names.Goals as goal

pub returns : goal.returns
returns c = mentioned

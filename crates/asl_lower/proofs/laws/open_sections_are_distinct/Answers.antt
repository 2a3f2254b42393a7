use Rattle.asl_lower.proofs.Inside.{open_distinct}
use Rattle.asl_lower.proofs.laws.open_sections_are_distinct.Goals as goal

pub returns : goal.returns
returns c l k = open_distinct l k.layout

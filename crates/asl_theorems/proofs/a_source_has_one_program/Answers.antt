use Rattle.asl_theorems.proofs.Programs.{one_program}
use Rattle.asl_theorems.proofs.a_source_has_one_program.Goals as goal

pub returns : goal.returns
returns c = one_program c.a_text_has_one_tree.ensures.text

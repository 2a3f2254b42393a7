use Rattle.asl_theorems.proofs.Programs.{its_source, is_kept, some_lock}
use Rattle.asl_theorems.proofs.a_compiled_program_is_its_sources.Goals as goal

pub returns-clause-inferred : goal.returns-clause-inferred
returns-clause-inferred c = its_source c.a_text_has_one_tree.ensures.text

pub returns-clause-some : goal.returns-clause-some
returns-clause-some c = some_lock c.a_text_has_one_tree.ensures.text

pub returns-clause-kept : goal.returns-clause-kept
returns-clause-kept c = is_kept

use Rattle.std.proofs.Common.{rules, tests}
use Rattle.std.proofs.lemmas.Iterator.{YieldsList-from_slice}
use Rattle.std.proofs.lemmas.Iterator.Search.{any_from_yields_List}
use Rattle.asl_explain.specs.declared.explained_value.Listed.{Listed}
use Rattle.asl_lists.specs.Document.{reads_cell}
use Rattle.asl_lists.proofs.section_values.reads_cells.Goals as goal

pub returns : goal.returns
returns c = any_from_yields_List (λ (d : Listed). reads_cell d.lock) _ _ _ c.any.ensures.ran (YieldsList-from_slice c.args.list.now cc) (λ x b q k. search (rules, tests))

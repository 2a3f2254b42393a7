use Rattle.std.proofs.Common.{rules, tests}
use Rattle.std.proofs.lemmas.Iterator.{YieldsList-from_slice}
use Rattle.std.proofs.lemmas.Iterator.Search.{any_from_yields_List}
use Rattle.asl_explain.specs.declared.explained_value.Listed.{Listed}
use Rattle.asl_code.specs.Locks.{effect_of}
use Rattle.asl_lists.specs.Document.{is_write}
use Rattle.asl_lists.proofs.section_values.writes.Goals as goal

pub returns : goal.returns
returns c = any_from_yields_List (λ (d : Listed). is_write (effect_of d.lock)) _ _ _ c.any.ensures.ran (YieldsList-from_slice c.args.list.now cc) (λ x b q k. search (rules, tests))

use Rattle.std.proofs.Common.{rules, tests}
use Rattle.std.specs.List.{list_any}
use Rattle.std.proofs.lemmas.Iterator.{YieldsList-from_slice}
use Rattle.std.proofs.lemmas.Iterator.Search.{any_from_yields_List}
use Rattle.asl_c_programs.specs.Tables.{is_of_class}
use Rattle.asl_c_programs.proofs.list_entries.names_class.Goals as goal

pub returns : goal.returns
returns c = any_from_yields_List (list_any (is_of_class c.args.class)) _ _ _ c.any.ensures.ran (YieldsList-from_slice c.args.lists.now cc) (λ x b q k. search (rules, tests))

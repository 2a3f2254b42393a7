use Rattle.std.proofs.Common.{rules, tests}
use Rattle.std.proofs.lemmas.Iterator.{YieldsList-from_slice}
use Rattle.std.proofs.lemmas.Iterator.Search.{any_from_yields_List}
use Rattle.asl_c_programs.specs.Tables.{is_follow}
use Rattle.asl_c_programs.proofs.list_entries.has_follow.Goals as goal

pub returns : goal.returns
returns c = any_from_yields_List is_follow _ _ _ c.any.ensures.ran (YieldsList-from_slice c.args.path.now cc) (λ x b q k. search (rules, tests))

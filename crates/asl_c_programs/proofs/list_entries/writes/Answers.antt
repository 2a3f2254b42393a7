use Rattle.std.proofs.Common.{rules, tests}
use Rattle.std.proofs.lemmas.Iterator.{YieldsList-from_slice}
use Rattle.std.proofs.lemmas.Iterator.Search.{any_from_yields_List}
use Rattle.asl_c_programs.specs.Tables.{is_for_writing}
use Rattle.asl_c_programs.proofs.list_entries.writes.Goals as goal

pub returns : goal.returns
returns c = any_from_yields_List is_for_writing _ _ _ c.any.ensures.ran (YieldsList-from_slice c.args.locks.now cc) (λ x b q k. search (rules, tests))

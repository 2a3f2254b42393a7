use Rattle.std.proofs.Common.{rules, tests}
use Rattle.std.proofs.lemmas.Iterator.{YieldsList-from_slice}
use Rattle.std.proofs.lemmas.Iterator.Search.{any_from_yields_List}
use Rattle.asl_lists.specs.Document.{is_star}
use Rattle.asl_lists.proofs.section_values.has_star.Goals as goal

pub returns : goal.returns
returns c = any_from_yields_List is_star _ _ _ c.any.ensures.ran (YieldsList-from_slice c.args.path.now cc) (λ x b q k. search (rules, tests))

use Rattle.std.proofs.Common.{rules, tests}
use Rattle.std.proofs.lemmas.Iterator.{YieldsList-from_slice}
use Rattle.std.proofs.lemmas.Iterator.Search.{any_from_yields_List}
use Rattle.asl_tool.specs.Spacing.{is_call}
use Rattle.asl_tool.proofs.spacing.has_call.Goals as goal

pub returns : goal.returns
returns c = any_from_yields_List is_call _ _ _ c.any.ensures.ran (YieldsList-from_slice c.args.code.now cc) (λ x b q k. search (rules, tests))

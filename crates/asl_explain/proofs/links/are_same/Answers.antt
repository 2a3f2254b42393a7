use Rattle.std.proofs.Common.{sym, ◌∙◌}
use Rattle.asl_code.proofs.Same.{same_lock}
use Rattle.asl_explain.proofs.links.are_same.Goals as goal

pub returns : goal.returns
returns c = λ t. same_lock _ _ (sym c.eq.ensures ∙ t)

use Rattle.std.proofs.Common.{List, sym, subst, ◌∙◌}
use Rattle.asl_class_reasons.specs.declared.following.Shown.{Shown}
use Rattle.asl_class_reasons.specs.Following.{AreFollowing}
use Rattle.asl_class_reasons.proofs.following.Following.chain.Goals as goal

pub returns : goal.returns
returns c = λ l reasons h apart. c.picked.ensures l reasons (subst (λ (xs : List Shown). AreFollowing l reasons xs) (sym (c.as_slice-items.ensures.value ∙ c.self.view_is)) h) apart

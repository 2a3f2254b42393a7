use Rattle.std.proofs.Common.{◌≡◌, List, sym, ap, ◌∙◌, subst}
use Rattle.asl_class_reasons.specs.declared.place.Step.{Step}
use Rattle.asl_class_reasons.specs.Reasons.{Found, AreReasons}
use Rattle.asl_class_reasons.specs.Following.{AreFollowing}
use Rattle.asl_class_reasons.proofs.reasons.Reasons.following.Goals as goal

pub shown_steps-requires-clause-reasons : goal.shown_steps-requires-clause-reasons
shown_steps-requires-clause-reasons c =
    let is : c.as_slice-steps.result.now ≡ c.args.self.now.steps = c.as_slice-steps.ensures.value ∙ ap (λ (f : Found). f.steps) c.self.view_is in
    subst (λ (xs : List Step). AreReasons c.args.lowering.now xs) (sym is) c.requires.reasons

pub returns : goal.returns
returns c =
    let is : c.as_slice-steps.result.now ≡ c.args.self.now.steps = c.as_slice-steps.ensures.value ∙ ap (λ (f : Found). f.steps) c.self.view_is in
    subst (λ (xs : List Step). AreFollowing c.args.lowering.now xs c.in_ok-items.items.items) is c.in_ok-items.ensures

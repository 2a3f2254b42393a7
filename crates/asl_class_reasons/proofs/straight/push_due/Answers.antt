use Rattle.std.proofs.Common.{List, sym, subst}
use Rattle.asl_class_reasons.specs.declared.place.Step.{Step}
use Rattle.asl_class_reasons.specs.declared.draft.Draft.{Draft}
use Rattle.asl_class_reasons.specs.Chains.{AreStepsThere}
use Rattle.asl_class_reasons.specs.Reasons.{AreReasonedBy}
use Rattle.asl_class_reasons.proofs.StraightChains.{one_reasoned, one_more_there}
use Rattle.asl_class_reasons.proofs.straight.push_due.Goals as goal

pub returns-in_ok-push-clause-there : goal.returns-in_ok-push-clause-there
returns-in_ok-push-clause-there c = λ h. (
    let d : Draft = c.args.draft.now in
    subst (λ (ys : List Step). AreStepsThere d.members d.functions ys) (sym c.in_ok-push.ensures.items) (one_more_there d.members d.functions c.args.steps.now.items c.in-Some.step h c.in-Some.ensures.there))

pub returns-in_ok-push-clause-reasoned : goal.returns-in_ok-push-clause-reasoned
returns-in_ok-push-clause-reasoned c = λ l f of h. (
    let d : Draft = c.args.draft.now in
    subst (λ (ys : List Step). AreReasonedBy l d.steps.items ys) (sym c.in_ok-push.ensures.items) (one_reasoned l d.steps.items c.args.steps.now.items c.in-Some.step h (c.in-Some.ensures.reasoned l f of)))

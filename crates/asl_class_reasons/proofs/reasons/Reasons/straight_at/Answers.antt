use Rattle.std.proofs.Common.{◌≡◌, List, Option, Vec, Global, take, sym, ap, ◌∙◌, subst}
use Rattle.std.specs.Prelude.{IfSome}
use Rattle.asl_class_reasons.specs.declared.place.Place.{Place}
use Rattle.asl_class_reasons.specs.declared.place.Step.{Step}
use Rattle.asl_class_reasons.specs.declared.place.Link.{Link}
use Rattle.asl_class_reasons.specs.Reasons.{Found, IsChain, AreReasons, AreReasonedBy}
use Rattle.asl_class_reasons.specs.Chains.{AreChains}
use Rattle.asl_class_reasons.proofs.StraightChains.{reasons_taken}
use Rattle.asl_class_reasons.proofs.reasons.Reasons.straight_at.Goals as goal

pub due_steps-requires-clause-founded : goal.due_steps-requires-clause-founded
due_steps-requires-clause-founded c =
    let l = c.args.lowering.now in
    let firsts : AreReasons l c.first_steps-firsts.result.now = subst (λ (xs : List Step). AreReasons l xs) (sym c.first_steps-firsts.ensures) (reasons_taken l c.args.self.now.steps c.args.before c.requires.reasons) in
    c.in_ok-draft.ensures.founded l (ap (λ (f : Found). f.members) c.self.view_is ∙ c.requires.members) (ap (λ (f : Found). f.functions) c.self.view_is ∙ c.requires.functions) firsts

pub returns-in-Some : goal.returns-in-Some
returns-in-Some c =
    let l = c.args.lowering.now in
    let es : List Step = c.args.self.now.steps in
    let own : List Step = c.in_ok-steps.steps.items in
    let firsts : c.in_ok-draft.draft.steps.items ≡ take c.args.before es = c.in_ok-draft.ensures.steps ∙ c.first_steps-firsts.ensures in
    let all : AreChains own c.in_ok-chains.chains = subst (λ (xs : List Step). AreChains xs c.in_ok-chains.chains) c.deref-2.ensures.value c.in_ok-chains.ensures.chains in
    let here : IsChain own c.in_ok-chains.chains.from c.in-Some.links.items c.args.into = subst (λ (o : Option (Vec Link Global)). IfSome o (λ ks. IsChain own c.in_ok-chains.chains.from ks.items c.args.into)) c.in-Some.is (c.in_ok-links.ensures.some own all) in
    record {
      apart = c.in_ok-are_joined_by.ensures.no c.if-branch.false;
      reasoned = subst (λ (xs : List Step). AreReasonedBy l xs own) firsts c.in_ok-steps.ensures.reasoned;
      chain = subst (λ (p : Place). IsChain own p c.in-Some.links.items c.args.into) c.in_ok-chains.ensures.from here;
    }

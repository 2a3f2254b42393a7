use Rattle.std.proofs.Common.{◌≡◌, ◌-◌, ◌++◌, ℕ, List, Option, Vec, Global, take, sym, ap, ◌∙◌, subst}
use Rattle.std.specs.Prelude.{IfSome}
use Rattle.asl_class_reasons.specs.declared.place.Step.{Step}
use Rattle.asl_class_reasons.specs.declared.place.Link.{Link}
use Rattle.asl_class_reasons.specs.Reasons.{IsChain, AreReasonedBy}
use Rattle.asl_class_reasons.proofs.StraightChains.{firsts_reasoned}
use Rattle.asl_class_reasons.proofs.reasons.Reasons.first_chain.Goals as goal

pub returns : goal.returns
returns c = λ l r. (
    let es : List Step = c.args.self.now.steps in
    let k : ℕ = c.in_ok-joined.joined in
    let own : List Step = c.extend_from_slice.new.self.items in
    let same : own ≡ take k es = c.in_ok-extend_from_slice.ensures.items ∙ ap (λ (xs : List Step). xs ++ c.first_steps.result.now) c.new-steps.ensures.items ∙ c.first_steps.ensures in
    let chain : IsChain (take k es) c.args.from c.in-Some.links.items c.args.into = subst (λ (o : Option (Vec Link Global)). IfSome o (λ ks. IsChain (take k es) c.args.from ks.items c.args.into)) c.in-Some.is c.in_ok-links.ensures.some in
    record {
      apart = c.in_ok-joined.ensures.apart;
      reasoned = subst (λ (xs : List Step). AreReasonedBy l (take (k - 1) es) xs) (sym same) (firsts_reasoned l es k r);
      chain = subst (λ (xs : List Step). IsChain xs c.args.from c.in-Some.links.items c.args.into) (sym same) chain;
    })

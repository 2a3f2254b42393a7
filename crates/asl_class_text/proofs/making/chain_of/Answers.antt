use Rattle.std.proofs.Common.{List, Option, refl, subst}
use Rattle.std.specs.Prelude.{IfSome}
use Rattle.std.proofs.lemmas.Result.{IfOk-weaker}
use Rattle.asl_class_reasons.specs.declared.place.Step.{Step}
use Rattle.asl_class_reasons.specs.declared.straight.StraightChain.{StraightChain}
use Rattle.asl_class_reasons.specs.Reasons.{IsStraight}
use Rattle.asl_class_text.proofs.Chaining.{straight_told}
use Rattle.asl_class_text.proofs.making.chain_of.Goals as goal

pub returns : goal.returns
returns c =
    let l = c.args.facts.now.lowering in
    let es : List Step = c.args.reasons.now.steps in
    let is : IsStraight l es c.args.from c.args.into c.in-Some.straight = subst (λ (o : Option StraightChain). IfSome o (IsStraight l es c.args.from c.args.into)) c.in-Some.is c.in_ok-straight.ensures.straight in
    IfOk-weaker c.steps_of.result _ _ (λ chain told. straight_told l es c.args.from c.args.into c.in-Some.straight _ _ is refl told) c.steps_of.ensures

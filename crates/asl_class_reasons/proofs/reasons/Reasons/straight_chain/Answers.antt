use Rattle.std.proofs.Common.{Option, subst}
use Rattle.std.specs.Prelude.{IfSome}
use Rattle.asl_class_reasons.specs.declared.straight.StraightChain.{StraightChain}
use Rattle.asl_class_reasons.specs.Reasons.{IsStraight}
use Rattle.asl_class_reasons.proofs.reasons.Reasons.straight_chain.Goals as goal

pub returns-in-Some-clause-straight : goal.returns-in-Some-clause-straight
returns-in-Some-clause-straight c =
    subst (λ (o : Option StraightChain). IfSome o (IsStraight c.args.lowering.now c.args.self.now.steps c.args.from c.args.into)) c.in-Some.is (c.in_ok-chain.ensures c.args.lowering.now c.requires.following)

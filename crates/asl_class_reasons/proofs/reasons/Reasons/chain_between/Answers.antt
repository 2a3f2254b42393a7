use Rattle.std.proofs.Common.{◌≡◌, None, subst}
use Rattle.std.specs.Prelude.{IfOk, IfSome}
use Rattle.asl_class_reasons.specs.declared.place.Place.{Place}
use Rattle.asl_class_reasons.specs.Reasons.{IsChain, Joined}
use Rattle.asl_class_reasons.proofs.reasons.Reasons.chain_between.Goals as goal

pub returns-clause-some : goal.returns-clause-some
returns-clause-some c =
    subst (λ (p : Place). IfOk c.chain_to.result (λ o. IfSome o (λ ks. IsChain c.args.self.now.steps p ks.items c.args.into))) c.in_ok-chains.ensures.from (c.chain_to.ensures.some c.args.self.now.steps c.in_ok-chains.ensures.chains)

pub returns-clause-none : goal.returns-clause-none
returns-clause-none c =
    subst (λ (p : Place). IfOk c.chain_to.result (λ o. o ≡ None → Joined c.args.self.now.steps p c.args.into → ⊥)) c.in_ok-chains.ensures.from (c.chain_to.ensures.none c.args.self.now.steps c.in_ok-chains.ensures.chains)

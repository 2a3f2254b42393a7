use Rattle.std.proofs.Common.{◌≡◌, rules, refl}
use Rattle.asl_class_reasons.proofs.Chaining.{none_joined}
use Rattle.asl_class_reasons.proofs.search.Search.chain_to.Goals as goal

pub returns-in-None-clause-none : goal.returns-in-None-clause-none
returns-in-None-clause-none c = λ steps h _. (
    let ne : ¬ (c.args.into ≡ c.args.self.now.from) = search (rules, c.if-eq.false) in
    none_joined steps c.args.self.now c.args.into h ne (c.in-None.ensures.none refl))

use Rattle.std.proofs.Common.{◌≡◌, rules, subst}
use Rattle.asl_machine.specs.Cover.{is_fresh}
use Rattle.asl_machine.specs.Fresh.{fresh_at, AreApart}
use Rattle.asl_machine.specs.View.{Configuration}
use Rattle.asl_machine.proofs.Machines.{fresh_at_place, fresh_is_there, none_is_fresh}
use Rattle.asl_machine.proofs.machine.Machine.fresh.Goals as goal

pub returns-clause-there : goal.returns-clause-there
returns-clause-there c =
    let tells : c.is_fresh.result ≡ is_fresh (fresh_at c.args.self.now.state.threads c.args.t) c.args.object = search (rules, fresh_at_place) in
    fresh_is_there c.args.self.now c.args.t c.args.object c.is_fresh.result (subst (λ (m : Configuration). AreApart m.image m.state) c.self.view_is c.self.invariant.apart) tells

pub returns-clause-version : goal.returns-clause-version
returns-clause-version c =
    let tells : c.is_fresh.result ≡ is_fresh (fresh_at c.args.self.now.state.threads c.args.t) c.args.object = search (rules, fresh_at_place) in
    none_is_fresh c.args.self.now c.args.t c.args.object c.is_fresh.result (subst (λ (m : Configuration). AreApart m.image m.state) c.self.view_is c.self.invariant.apart) tells

use Rattle.std.proofs.Common.{rules, ◌≡◌, subst}
use Rattle.asl_backward_flow.specs.Needed.{region_of}
use Rattle.asl_explain.specs.Chains.{Stays, Here}
use Rattle.asl_explain.specs.Analysed.{read}
use Rattle.asl_explain.proofs.walk.stays_to.Goals as goal

pub returns-then-from-to-clause-stays : goal.returns-then-from-to-clause-stays
returns-then-from-to-clause-stays c = λ t.
    let same : c.args.from ≡ c.args.to = search (rules, c.if-from-to.true) in
    subst (Stays (read c.args.analysis.now) (region_of c.args.region) c.args.lock.now c.args.from) same Here

use Rattle.std.proofs.Common.{◌≡◌, ◌+◌, suc, subst, arith}
use Rattle.asl_lower.specs.Regions.{Inside}
use Rattle.asl_explain.specs.Chains.{Needs}
use Rattle.asl_explain.specs.Analysed.{read}
use Rattle.asl_explain.proofs.Dropping.{dropped}
use Rattle.asl_explain.proofs.confirm.is_dropped.Goals as goal

pub returns : goal.returns
returns c = λ t.
    let same = c.from.ensures in
    let next : c.from.result + 1 ≡ suc c.args.pc = omega (arith, same) in
    dropped c.args.analysis.now c.args.number c.args.section c.requires.there c.args.pc c.in-Some.to c.args.lock.now c.in-Some.ensures.made (c.is_on.ensures.0 c.if-not-is_on.false)
    (subst (λ q. Needs (read c.args.analysis.now) (Inside c.args.number) q c.args.lock.now) next (c.is_needed.ensures t))

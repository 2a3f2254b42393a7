use Rattle.std.proofs.Common.{◌<◌, ℕ, suc, sym, subst, arith}
use Rattle.asl_class_reasons.specs.declared.join_numbers.JoinNumbers.{JoinNumbers}
use Rattle.asl_class_reasons.specs.Following.{number_of, IsBelow}
use Rattle.asl_class_reasons.proofs.Followed.{below_more}
use Rattle.asl_class_reasons.proofs.join_numbers.JoinNumbers.root_at.Goals as goal

pub loop-preserved : goal.loop-preserved
loop-preserved c =
    let j : JoinNumbers = c.args.self.now in
    let i = c.loop.invariant in
    let test = c.if-number-before.false in
    let low : number_of j c.loop.at < c.args.before = omega (arith, c.number.ensures) in
    (suc i.0, subst (λ (at : ℕ). IsBelow j c.args.before (suc i.0) c.args.place at) (sym c.above-at.ensures) (below_more j c.args.before i.0 c.args.place c.loop.at i.1 low))

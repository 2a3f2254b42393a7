use Rattle.std.proofs.Common.{◌≡◌, ◌-◌, ℕ, List, length, take, sym, ap, ◌∙◌, subst, arith}
use Rattle.asl_class_reasons.specs.declared.place.Step.{Step}
use Rattle.asl_class_reasons.specs.Reasons.{Joined}
use Rattle.asl_class_reasons.proofs.StraightChains.{none_join, some_join}
use Rattle.asl_class_reasons.proofs.reasons.Reasons.joining_steps.Goals as goal

pub loop-joined-init : goal.loop-joined-init
loop-joined-init c =
    let es : List Step = c.args.self.now.steps in
    let n : ℕ = length c.steps-joined.result.now in
    let is : n ≡ length es = ap (λ (xs : List Step). length xs) c.steps-joined.ensures in
    let j : Joined (take n es) c.args.from c.args.into = subst (λ (k : ℕ). Joined (take k es) c.args.from c.args.into) (sym is) c.requires.joined in
    record {
      order = some_join es n c.args.from c.args.into c.requires.two j;
      there = omega (arith, is);
      apart = none_join es c.args.from c.args.into c.requires.two;
      joined = j;
    }

pub returns-clause-apart : goal.returns-clause-apart
returns-clause-apart c =
    let i = c.loop-joined.invariant in
    let o = i.order in
    let t = c.loop-joined-test.false in
    let e : c.loop-joined.apart ≡ c.loop-joined.joined - 1 = omega arith in
    subst (λ (k : ℕ). Joined (take k c.args.self.now.steps) c.args.from c.args.into → ⊥) e i.apart

use Rattle.std.proofs.Common.{ℕ, Option, Some, refl, sym, subst}
use Rattle.asl_explain.specs.ClassReasons.{IsToldIf}
use Rattle.asl_explain.proofs.class_reasons.told_if.Goals as goal

pub returns-in_ok-told-in-Some : goal.returns-in_ok-told-in-Some
returns-in_ok-told-in-Some c =
    let told = c.in_ok-told-in-Some.told in
    let is : IsToldIf c.args.reasoned.now c.args.all c.args.class (Some c.in-Some.section) (Some told) = (told, refl, c.in_ok-told-in-Some.ensures) in
    subst (λ (o : Option ℕ). IsToldIf c.args.reasoned.now c.args.all c.args.class o (Some told)) (sym c.in-Some.is) is

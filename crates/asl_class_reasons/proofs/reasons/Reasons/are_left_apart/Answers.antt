use Rattle.std.proofs.Common.{◌≤◌, ℕ, List, take, sym, subst, arith}
use Rattle.asl_class_reasons.specs.declared.join_numbers.JoinNumbers.{JoinNumbers}
use Rattle.asl_class_reasons.specs.declared.place.Step.{Step}
use Rattle.asl_class_reasons.specs.Reasons.{Found, Joined}
use Rattle.asl_class_reasons.specs.Draft.{number}
use Rattle.asl_class_reasons.specs.Following.{HaveTwoRoots}
use Rattle.asl_class_reasons.proofs.Followed.{two_trees}
use Rattle.asl_class_reasons.proofs.reasons.Reasons.are_left_apart.Goals as goal

pub returns : goal.returns
returns c = λ t joined. (
    let j : JoinNumbers = c.self.inside.joins in
    let m : ℕ = c.self.inside.draft.members in
    let k : ℕ = c.args.count in
    let es : List Step = c.self.inside.draft.steps.items in
    let test = c.if-count-self.false in
    let le : k ≤ c.self.inside.made = omega arith in
    let two : HaveTwoRoots j k (number m c.args.from) (number m c.args.into) = subst (λ (x : ℕ). HaveTwoRoots j k x (number m c.args.into)) c.number-one.ensures (subst (λ (y : ℕ). HaveTwoRoots j k c.number-one.result y) c.number-other.ensures (c.are_apart.ensures t)) in
    two_trees j m es c.self.inside.made k c.args.from c.args.into c.self.invariant.1 le two (subst (λ (f : Found). Joined (take k f.steps) c.args.from c.args.into) (sym c.self.view_is) joined))

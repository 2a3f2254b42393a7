use Rattle.std.proofs.Common.{List, sym, subst}
use Rattle.asl_class_reasons.specs.declared.place.Step.{Step}
use Rattle.asl_class_reasons.specs.declared.following.Shown.{Shown}
use Rattle.asl_class_reasons.specs.Reasons.{IsReasoned}
use Rattle.asl_class_reasons.specs.Following.{AreFollowing}
use Rattle.asl_class_reasons.proofs.Followed.{one_follows}
use Rattle.asl_class_reasons.proofs.replay.note_one.Goals as goal

pub returns-clause-shown : goal.returns-clause-shown
returns-clause-shown c = λ l es f of same h. (
    let s : Step = c.in-Some.step in
    let shown : Shown = record { step = s; before = c.args.before; owed = c.args.next } in
    let reasoned = subst (λ (xs : List Step). IsReasoned l xs s) same (c.in-Some.ensures.reasoned l f of) in
    subst (λ (xs : List Shown). AreFollowing l es xs) (sym c.in_ok-push.ensures.items) (one_follows l es c.args.items.now.items shown h reasoned))

use Rattle.std.proofs.Common.{◌≡◌, List, ℕ, take, sym, ap, subst, ◌∙◌}
use Rattle.asl_class_text.specs.Classes.{members_of}
use Rattle.asl_class_text.specs.declared.told.ToldPair.{ToldPair}
use Rattle.asl_class_text.specs.Made.{AreAllJoined, AreStraight}
use Rattle.asl_class_text.proofs.Grounded.{pairs_straight}
use Rattle.asl_class_text.proofs.Members.{told_joined}
use Rattle.asl_class_text.proofs.making.told_class.Goals as goal

pub told_pairs-requires-clause-joined : goal.told_pairs-requires-clause-joined
told_pairs-requires-clause-joined c =
    let cs : List ℕ = c.args.facts.now.classes.items in
    let is : c.deref-2.result.now ≡ members_of cs c.args.class =
    c.deref-2.ensures.value ∙ c.in_ok-members.ensures ∙ ap (λ (xs : List ℕ). members_of xs c.args.class) c.deref.ensures.value in
    subst (λ (ms : List ℕ). AreAllJoined c.args.reasons.now.steps (take c.shown.result ms)) (sym is) (told_joined c.args.reasons.now.steps cs c.args.class c.shown.result c.requires.joined)

pub grounds_of-requires-clause-straight : goal.grounds_of-requires-clause-straight
grounds_of-requires-clause-straight c =
    let l = c.args.facts.now.lowering in
    subst (λ (ps : List ToldPair). AreStraight l c.args.reasons.now.steps ps) (sym c.deref-3.ensures.value) (pairs_straight l c.args.reasons.now.steps _ _ c.in_ok-pairs.ensures)

use Rattle.std.proofs.Common.{sym, subst, ap, ◌∙◌}
use Rattle.std.proofs.lemmas.Result.{IfOk-weaker}
use Rattle.asl_class_text.specs.Reasoned.{Reasoned, IsReasoned}
use Rattle.asl_class_text.specs.Texts.{classes_text}
use Rattle.asl_class_text.proofs.Telling.{text_is}
use Rattle.asl_class_text.proofs.class_text.told.Goals as goal

pub returns : goal.returns
returns c =
    let r : Reasoned = record { known = c.reasoned.inside.known; steps = c.reasoned.inside.reasons.steps } in
    let is : IsReasoned c.args.source.now r = subst (λ (x : Reasoned). IsReasoned c.args.source.now x) (sym c.reasoned.view_is) c.in_ok-reasoned.ensures in
    IfOk-weaker c.text_of.result _ _
    (λ text spelled. text_is c.args.source.now r c.args.all _ _ is c.in_ok-told.ensures (spelled ∙ ap (classes_text c.reasoned.inside.known.facts c.args.all) c.deref.ensures.value))
    c.text_of.ensures

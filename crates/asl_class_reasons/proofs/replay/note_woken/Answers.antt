use Rattle.std.proofs.Common.{sym, ap, ◌∙◌, subst}
use Rattle.asl_class_reasons.specs.declared.draft.Draft.{Draft}
use Rattle.asl_class_reasons.specs.Draft.{IsFounded}
use Rattle.asl_class_reasons.proofs.replay.note_woken.Goals as goal

pub loop-preserved : goal.loop-preserved
loop-preserved c =
    let i = c.loop.invariant in
    let e = c.in_ok-note.ensures in
    record {
      same = e.same ∙ i.same;
      shown = λ p es f of is h. e.shown p es (subst (λ (d : Draft). IsFounded p d) (sym i.same) f) of (ap (λ (d : Draft). d.steps.items) i.same ∙ is) (i.shown p es f of is h);
    }

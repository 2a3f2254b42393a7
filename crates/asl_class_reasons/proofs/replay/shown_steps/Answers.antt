use Rattle.std.proofs.Common.{◌≡◌, ◌<◌, ◌+◌, List, length, take, refl, sym, ap, ◌∙◌, subst, arith}
use Rattle.asl_lower.specs.Lowered.{Lowered}
use Rattle.asl_class_reasons.specs.declared.place.Step.{Step}
use Rattle.asl_class_reasons.specs.declared.draft.Draft.{Draft}
use Rattle.asl_class_reasons.specs.Draft.{IsSized, IsFounded}
use Rattle.asl_class_reasons.proofs.Making.{owed_there}
use Rattle.asl_class_reasons.proofs.StraightChains.{steps_more, reasoned_at, there_at}
use Rattle.asl_class_reasons.proofs.Followed.{none_follow}
use Rattle.asl_class_reasons.proofs.replay.shown_steps.Goals as goal

pub loop-index-init : goal.loop-index-init
loop-index-init c =
    let l : Lowered = c.args.lowering.now in
    let es : List Step = c.args.steps.now in
    let e = c.in_ok-draft.ensures in
    let f = e.founded l c.requires.members c.requires.functions in
    let same = c.in_ok-note_woken.ensures.same in
    record {
      sized = subst (λ (d : Draft). IsSized d) (sym same) e.sized;
      founded = subst (λ (d : Draft). IsFounded l d) (sym same) f;
      members = ap (λ (d : Draft). d.members) same ∙ e.places.0;
      functions = ap (λ (d : Draft). d.functions) same ∙ e.places.1;
      steps = ap (λ (d : Draft). d.steps.items) same ∙ e.none;
      shown = c.in_ok-note_woken.ensures.shown l es f c.requires.owed e.none (none_follow l es c.new-items.result.items c.new-items.ensures.items);
    }

pub go_on-requires-clause-there : goal.go_on-requires-clause-there
go_on-requires-clause-there c =
    let i = c.loop-index.invariant in
    let test = c.loop-index-test.true in
    let lt : c.loop-index.index < length c.args.steps.now = omega (arith, c.min-index-end.ensures) in
    there_at c.loop-index.draft c.args.members c.args.functions c.args.steps.now c.loop-index.index _ i.members i.functions c.requires.there lt

pub note_woken-requires-in-loop-index-clause-there : goal.note_woken-requires-in-loop-index-clause-there
note_woken-requires-in-loop-index-clause-there c =
    let l : Lowered = c.args.lowering.now in
    let es : List Step = c.args.steps.now in
    let i = c.loop-index.invariant in
    let test = c.loop-index-test.true in
    let lt : c.loop-index.index < length es = omega (arith, c.min-index-end.ensures) in
    let f = c.in_ok-go_on.ensures.founded l i.founded (reasoned_at l es c.loop-index.draft.steps.items c.loop-index.index _ _ lt refl i.steps c.requires.reasons) in
    owed_there l c.go_on.new.draft f c.args.owed.now c.requires.owed

pub loop-index-preserved : goal.loop-index-preserved
loop-index-preserved c =
    let l : Lowered = c.args.lowering.now in
    let es : List Step = c.args.steps.now in
    let i = c.loop-index.invariant in
    let test = c.loop-index-test.true in
    let lt : c.loop-index.index < length es = omega (arith, c.min-index-end.ensures) in
    let e = c.in_ok-go_on.ensures in
    let f = e.founded l i.founded (reasoned_at l es c.loop-index.draft.steps.items c.loop-index.index _ _ lt refl i.steps c.requires.reasons) in
    let same = c.in_ok-note_woken-2.ensures.same in
    let steps : c.go_on.new.draft.steps.items ≡ take (c.loop-index.index + 1) es = steps_more es _ _ c.loop-index.index _ _ lt refl i.steps e.steps in
    record {
      sized = subst (λ (d : Draft). IsSized d) (sym same) e.grown.sized;
      founded = subst (λ (d : Draft). IsFounded l d) (sym same) f;
      members = ap (λ (d : Draft). d.members) same ∙ e.grown.members ∙ i.members;
      functions = ap (λ (d : Draft). d.functions) same ∙ e.grown.functions ∙ i.functions;
      steps = ap (λ (d : Draft). d.steps.items) same ∙ steps;
      shown = c.in_ok-note_woken-2.ensures.shown l es f c.requires.owed steps i.shown;
    }

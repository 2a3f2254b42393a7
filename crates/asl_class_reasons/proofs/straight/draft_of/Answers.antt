use Rattle.std.proofs.Common.{List, refl, ◌∙◌}
use Rattle.asl_class_reasons.specs.declared.place.Step.{Step}
use Rattle.asl_class_reasons.proofs.StraightChains.{steps_more, reasoned_at, there_at}
use Rattle.asl_class_reasons.proofs.straight.draft_of.Goals as goal

pub add-requires-clause-there : goal.add-requires-clause-there
add-requires-clause-there c =
    let i = c.loop-step.invariant in
    there_at c.loop-step.draft c.args.members c.args.functions c.args.steps.now c.loop-step.step-index _ i.members i.functions c.requires.there c.loop-step-test.true

pub loop-step-init : goal.loop-step-init
loop-step-init c =
    let e = c.in_ok-draft.ensures in
    record {
      sized = e.sized;
      members = e.places.0;
      functions = e.places.1;
      steps = e.none;
      founded = λ p m f r. e.founded p m f;
    }

pub loop-step-preserved : goal.loop-step-preserved
loop-step-preserved c =
    let i = c.loop-step.invariant in
    let e = c.in_ok-add.ensures in
    let xs : List Step = c.args.steps.now in
    record {
      sized = e.grown.sized;
      members = e.grown.members ∙ i.members;
      functions = e.grown.functions ∙ i.functions;
      steps = steps_more xs _ _ c.loop-step.step-index _ _ c.loop-step-test.true refl i.steps e.steps;
      founded = λ p m f r. e.founded p (i.founded p m f r) (reasoned_at p xs _ c.loop-step.step-index _ _ c.loop-step-test.true refl i.steps r);
    }

use Rattle.std.proofs.Common.{◌<◌, List, length, refl, arith}
use Rattle.asl_class_reasons.specs.declared.place.Step.{Step}
use Rattle.asl_class_reasons.proofs.Followed.{trees_at}
use Rattle.asl_class_reasons.proofs.join_numbers.JoinNumbers.met.Goals as goal

pub loop-index-preserved : goal.loop-index-preserved
loop-index-preserved c =
    let xs : List Step = c.as_slice-steps.result.now in
    let test = c.loop-index-test.true in
    let low : c.loop-index.index < length xs = omega (arith, c.min-count.ensures) in
    trees_at c.args.self.now c.args.draft.now.members c.args.draft.now.steps.items xs c.loop-index.index _ c.as_slice-steps.ensures.value low c.loop-index.invariant (c.if-not-meets.ensures refl)

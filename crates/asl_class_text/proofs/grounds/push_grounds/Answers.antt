use Rattle.std.proofs.Common.{◌≡◌, ◌-◌, ◌<◌, ◌≤◌, ℕ, List, length, refl, arith}
use Rattle.asl_class_text.specs.declared.told.ToldStep.{ToldStep}
use Rattle.asl_class_text.proofs.Paired.{there_at}
use Rattle.asl_class_text.proofs.Meeting.{met_joined}
use Rattle.asl_class_text.proofs.Grounded.{none_gone, gone_more, gone_all}
use Rattle.asl_class_text.proofs.grounds.push_grounds.Goals as goal

pub push_ground-requires-clause-joined : goal.push_ground-requires-clause-joined
push_ground-requires-clause-joined c =
    let ts : List ToldStep = c.args.chain.now in
    let n : ℕ = c.loop-number.number in
    let some : 1 ≤ n = omega arith in
    let high : n < length ts = c.loop-number-test.true in
    let low : n - 1 < length ts = omega arith in
    met_joined c.args.facts.now.lowering c.args.reasons.now.steps ts n _ _ some c.requires.straight (there_at ts (n - 1) _ _ low refl) (there_at ts n _ _ high refl)

pub loop-number-init : goal.loop-number-init
loop-number-init c = none_gone _ _ _ _ _

pub loop-number-preserved : goal.loop-number-preserved
loop-number-preserved c =
    let ts : List ToldStep = c.args.chain.now in
    let n : ℕ = c.loop-number.number in
    let some : 1 ≤ n = omega arith in
    let high : n < length ts = c.loop-number-test.true in
    let low : n - 1 < length ts = omega arith in
    gone_more _ _ _ ts n _ _ _ _ _ some (there_at ts (n - 1) _ _ low refl) (there_at ts n _ _ high refl) c.in_ok-push_ground.ensures c.loop-number.invariant

pub returns : goal.returns
returns c = gone_all _ _ _ _ _ _ _ (omega arith) c.loop-number.invariant

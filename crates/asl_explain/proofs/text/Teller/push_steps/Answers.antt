use Rattle.std.proofs.Common.{Option, ◌+◌, string_bytes, subst}
use Rattle.asl_explain.specs.Told.{line_of, step_before}
use Rattle.asl_explain.specs.Telling.{Tells, given}
use Rattle.asl_explain.specs.declared.explained_value.Step.{Step}
use Rattle.asl_explain.proofs.Piecing.{some_none, some_more, some_all}
use Rattle.asl_explain.proofs.text.Teller.push_steps.Goals as goal

pub loop-behind-init : goal.loop-behind-init
loop-behind-init c = some_none _ _ _

pub loop-behind-preserved : goal.loop-behind-preserved
loop-behind-preserved c =
    let f = (given c.args.self.now).facts in
    let steps = c.args.steps.now in
    let step = c.index-some-behind.result in
    let one = subst (λ (before : Option Step). Tells (line_of f before step) (string_bytes c.loop-behind.text) (string_bytes c.push_step.new.text)) c.step_before.ensures c.in_ok-push_step.ensures in
    some_more (λ n s. line_of f (step_before steps (c.args.first + n)) s) c.args.some.now c.loop-behind.behind _ _ _ _ _ c.loop-behind-test.true c.index-some-behind.is c.loop-behind.invariant one

pub returns : goal.returns
returns c =
    let f = (given c.args.self.now).facts in
    let steps = c.args.steps.now in
    some_all (λ n s. line_of f (step_before steps (c.args.first + n)) s) c.args.some.now c.loop-behind.behind _ _ c.loop-behind-test.false c.loop-behind.invariant

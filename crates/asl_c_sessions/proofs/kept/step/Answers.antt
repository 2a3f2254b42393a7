use Rattle.asl_c_sessions.proofs.Statuses.{stepped, step_other, step_memory}
use Rattle.asl_c_sessions.proofs.kept.step.Goals as goal

pub returns-clause-stepped : goal.returns-clause-stepped
returns-clause-stepped g c =
    let told = c.replace_with-answer.ensures in
    rw c.step_status.ensures (stepped c.args.session.now c.replace_with-answer.new.dest c.args.t c.replace_with-answer.result told.0 told.1.0 told.1.1.0 told.1.1.1.0 told.1.1.1.1.0 told.1.1.1.1.1.1.0 told.1.1.1.1.1.1.1)

pub returns-clause-other : goal.returns-clause-other
returns-clause-other g c = rw c.step_status.ensures (step_other c.replace_with-answer.result)

pub returns-clause-growth : goal.returns-clause-growth
returns-clause-growth g c =
    let told = c.replace_with-answer.ensures in
    rw c.step_status.ensures (λ two. told.1.1.1.1.1.0 (step_memory c.replace_with-answer.result two))

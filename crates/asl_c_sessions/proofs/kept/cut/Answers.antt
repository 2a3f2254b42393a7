use Rattle.asl_c_sessions.proofs.Statuses.{moved_to, move_memory, move_other}
use Rattle.asl_c_sessions.proofs.kept.cut.Goals as goal

pub returns-clause-cut : goal.returns-clause-cut
returns-clause-cut g c =
    let told = c.replace_with-answer.ensures in
    rw c.move_status.ensures (moved_to c.args.session.now _ c.replace_with-answer.new.dest c.args.k c.replace_with-answer.result told.0 told.1.0 told.1.1.1.1.0 told.1.1.1.1.1)

pub returns-clause-other : goal.returns-clause-other
returns-clause-other g c = rw c.move_status.ensures (move_other c.replace_with-answer.result)

pub returns-clause-growth : goal.returns-clause-growth
returns-clause-growth g c =
    let told = c.replace_with-answer.ensures in
    rw c.move_status.ensures (λ two. told.1.1.1.0 (move_memory c.replace_with-answer.result told.1.1.0 two))

use Rattle.std.proofs.lemmas.Result.{IfOk-weaker}
use Rattle.asl_c_sessions.proofs.session.Session.tell.Goals as goal

pub returns-clause-text : goal.returns-clause-text
returns-clause-text c =
    let m = c.view.result.now in
    let shown = rw c.resume-debugger.ensures at c.view.ensures.shown in
    let journal = rw c.resume-debugger.ensures at c.view.ensures.journal in
    rw (← c.self.view_is) (IfOk-weaker c.page_of-text.result _ _ (λ text spelled. record { journal = journal; machine = m; shown = shown; spelled = spelled }) c.page_of-text.ensures)

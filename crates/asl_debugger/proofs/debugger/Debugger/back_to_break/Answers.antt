use Rattle.std.proofs.Common.{sym, subst}
use Rattle.std.proofs.lemmas.Result.{on_ok_weaker}
use Rattle.asl_debugger.specs.Session.{Session, IsLastStop}
use Rattle.asl_debugger.proofs.ByTable.{last_stop_of}
use Rattle.asl_debugger.proofs.debugger.Debugger.back_to_break.Goals as goal

pub returns-clause-stop : goal.returns-clause-stop
returns-clause-stop g c =
    let d = c.self.inside in
    let session : Session = record { image = d.machine.image; log = d.journal; position = d.position; breakpoints = d.breakpoints.items } in
    let halt = rw (← c.self.view_is) at c.in_ok-stop.ensures.stop in
    let last = last_stop_of session c.self.invariant.journal c.in_ok-stop.stop halt in
    on_ok_weaker c.show.result (λ moves. rw (← c.self.view_is) (subst (λ (s : Session). IsLastStop session s.position) (sym moves) last)) c.show.ensures.moves

use Rattle.asl_debugger.specs.Session.{Session}
use Rattle.asl_debugger.proofs.ByTable.{is_shown}
use Rattle.asl_debugger.proofs.debugger.Debugger.view.Goals as goal

pub returns-clause-shown : goal.returns-clause-shown
returns-clause-shown c =
    let d = c.self.inside in
    let session : Session = record { image = d.machine.image; log = d.journal; position = d.position; breakpoints = d.breakpoints.items } in
    rw (← c.self.view_is) (is_shown session c.self.invariant.journal d.machine c.self.invariant.shown)

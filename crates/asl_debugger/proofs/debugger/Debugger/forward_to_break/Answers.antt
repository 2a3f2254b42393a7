use Rattle.std.proofs.Common.{◌≤◌, length, rules, arith}
use Rattle.asl_debugger.specs.Session.{Session}
use Rattle.asl_debugger.proofs.Positions.{kept_at}
use Rattle.asl_debugger.proofs.ByTable.{next_stop_of}
use Rattle.asl_debugger.proofs.debugger.Debugger.forward_to_break.Goals as goal

pub invariant_of-self : goal.invariant_of-self
invariant_of-self g c =
    let inside = c.self.inside in
    let within : c.in_ok-machine.position ≤ length inside.journal.events = search (rules, arith) in
    let shown = rw (← c.self.view_is) at c.in_ok-machine.ensures.machine in
    kept_at inside.journal inside.spacing inside.checkpoints.items inside.marks.items inside.marks.items inside.machine c.in_ok-machine.machine inside.position (c.in_ok-machine.position) c.self.invariant c.self.invariant.marked within shown

pub returns-clause-stop : goal.returns-clause-stop
returns-clause-stop g c =
    let d = c.self.inside in
    let session : Session = record { image = d.machine.image; log = d.journal; position = d.position; breakpoints = d.breakpoints.items } in
    let halt = rw (← c.self.view_is) at c.in_ok-machine.ensures.stop in
    rw (← c.self.view_is) (next_stop_of session c.self.invariant.journal c.in_ok-machine.position halt)

use Rattle.std.proofs.Common.{◌≤◌, ◌+◌, length, ap, arith}
use Rattle.asl_debugger.proofs.Positions.{kept_at}
use Rattle.asl_debugger.proofs.ByTable.{wants_of}
use Rattle.asl_debugger.proofs.debugger.Debugger.forward.Goals as goal

pub invariant_of-self-2 : goal.invariant_of-self-2
invariant_of-self-2 g c =
    let inside = c.self.inside in
    let len = ap (λ es. length es) c.events.ensures.events in
    let within : inside.position + 1 ≤ length inside.journal.events = omega (arith, len, c.self.invariant.within) in
    kept_at inside.journal inside.spacing inside.checkpoints.items inside.marks.items inside.marks.items inside.machine c.make_event.new.machine inside.position (inside.position + 1) c.self.invariant c.self.invariant.marked within c.in_ok-make_event.ensures.made

pub returns-in_err-make_event-clause-memory : goal.returns-in_err-make_event-clause-memory
returns-in_err-make_event-clause-memory g c e =
    let d = c.self.inside in
    rw (← c.self.view_is) (wants_of d.machine.image d.journal c.self.invariant.journal d.position c.in_err-make_event.ensures.wants)

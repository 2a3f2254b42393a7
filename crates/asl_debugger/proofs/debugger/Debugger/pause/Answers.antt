use Rattle.std.proofs.Common.{subst, sym}
use Rattle.asl_machine.specs.State.{State}
use Rattle.asl_debugger.specs.Checkpoints.{IsDebuggerState}
use Rattle.asl_debugger.proofs.debugger.Debugger.pause.Goals as goal

pub returns-clause-fits : goal.returns-clause-fits
returns-clause-fits c =
    let d = c.self.inside in
    rw (← c.self.view_is) (record {
      machine = c.pause.ensures.fits;
      kept = subst (λ (s : State). IsDebuggerState d.machine.image d.journal d.spacing d.checkpoints.items d.marks.items (record { image = d.machine.image; state = s }) d.position) (sym c.pause.ensures.state) c.self.invariant;
    })

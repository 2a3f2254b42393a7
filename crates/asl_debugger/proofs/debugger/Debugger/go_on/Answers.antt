use Rattle.std.proofs.Common.{◌≡◌, ap, subst}
use Rattle.asl_code.specs.declared.image.Image.{Image}
use Rattle.asl_machine.specs.View.{Configuration}
use Rattle.asl_debugger.specs.Computed.{machine_before}
use Rattle.asl_debugger.proofs.Positions.{kept_at}
use Rattle.asl_debugger.proofs.debugger.Debugger.go_on.Goals as goal

pub invariant_of-self : goal.invariant_of-self
invariant_of-self g c =
    let d = c.self.inside in
    let at = rw (← c.self.view_is) at c.in_ok-machine.ensures.machine in
    let same : c.in_ok-machine.machine.image ≡ d.machine.image = ap (λ (m : Configuration). m.image) at in
    let shown = subst (λ (i : Image). c.in_ok-machine-2.machine ≡ machine_before i d.journal c.args.k) same c.in_ok-machine-2.ensures.machine in
    let within = rw (← c.self.view_is) at c.requires in
    kept_at d.journal d.spacing d.checkpoints.items d.marks.items d.marks.items d.machine c.in_ok-machine-2.machine d.position c.args.k c.self.invariant c.self.invariant.marked within shown

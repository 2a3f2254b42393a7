use Rattle.std.proofs.Common.{◌≡◌, ◌≤◌, length, ap, sym, subst, arith}
use Rattle.asl_code.specs.declared.image.Image.{Image}
use Rattle.asl_machine.specs.View.{Configuration}
use Rattle.asl_debugger.specs.Checkpoints.{AreMarks}
use Rattle.asl_debugger.specs.Computed.{machine_before}
use Rattle.asl_debugger.proofs.Positions.{kept_at}
use Rattle.asl_debugger.proofs.debugger.Debugger.go_back.Goals as goal

pub machine_by_marks-requires-clause-marks : goal.machine_by_marks-requires-clause-marks
machine_by_marks-requires-clause-marks g c =
    let d = c.self.inside in
    let at = rw (← c.self.view_is) at c.in_ok-machine.ensures.machine in
    let same : c.in_ok-machine.machine.image ≡ d.machine.image = ap (λ (m : Configuration). m.image) at in
    subst (λ (i : Image). AreMarks i d.journal c.keep_marks.new.marks.items) (sym same) (c.keep_marks.ensures.kept d.machine.image d.journal c.self.invariant.marked)

pub invariant_of-self-2 : goal.invariant_of-self-2
invariant_of-self-2 g c =
    let d = c.self.inside in
    let at = rw (← c.self.view_is) at c.in_ok-machine.ensures.machine in
    let same : c.in_ok-machine.machine.image ≡ d.machine.image = ap (λ (m : Configuration). m.image) at in
    let marks = c.machine_by_marks.new.marks.items in
    let marked = subst (λ (i : Image). AreMarks i d.journal marks) same c.in_ok-machine-2.ensures.marks in
    let shown = subst (λ (i : Image). c.in_ok-machine-2.machine ≡ machine_before i d.journal c.args.k) same c.in_ok-machine-2.ensures.machine in
    let before = rw (← c.self.view_is) at c.requires in
    let within : c.args.k ≤ length d.journal.events = omega (arith, before, c.self.invariant.within) in
    kept_at d.journal d.spacing d.checkpoints.items d.marks.items marks d.machine c.in_ok-machine-2.machine d.position c.args.k c.self.invariant marked within shown

use Rattle.std.proofs.Common.{◌≤◌}
use Rattle.std.proofs.lemmas.List.Elements.{All-weaker}
use Rattle.asl_debugger.specs.declared.trail.Mark.{Mark}
use Rattle.asl_debugger.proofs.Recording.{kept_cut}
use Rattle.asl_debugger.proofs.debugger.Debugger.cut.Goals as goal

pub invariant_of-self : goal.invariant_of-self
invariant_of-self c =
    let d = c.self.inside in
    let marks = c.keep_marks.new.marks.items in
    let left = c.keep_marks.ensures.kept d.machine.image d.journal c.self.invariant.marked in
    let before = All-weaker (λ (m : Mark). (0 ≤ m.position) × (m.position ≤ d.position)) (λ (m : Mark). m.position ≤ d.position) (λ m both. both.1) marks c.keep_marks.ensures.within in
    let kept = kept_cut d.machine.image d.journal d.spacing d.position d.checkpoints.items d.marks.items marks d.machine c.self.invariant left before in
    rw (c.truncate.ensures.items, c.cut.ensures) kept

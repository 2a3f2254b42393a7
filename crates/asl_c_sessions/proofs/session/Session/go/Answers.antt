use Rattle.std.proofs.Common.{◌≡◌, ap, subst}
use Rattle.asl_code.specs.declared.image.Image.{Image}
use Rattle.asl_debugger.specs.Session.{Session, moved}
use Rattle.asl_debugger.specs.Paused.{IsSessionRestOf}
use Rattle.asl_c_sessions.proofs.Owners.{program_stays}
use Rattle.asl_c_sessions.proofs.session.Session.go.Goals as goal

pub invariant_of-result : goal.invariant_of-result
invariant_of-result g c =
    let old = c.resume-debugger.result in
    let new = c.goto-answer.new.self in
    let image = λ (s : Session). s.image in
    subst (λ (i : Image). IsSessionRestOf i c.pause-debugger.result)
    (program_stays c.goto-answer.result c.self.inside.program old new (λ _. new ≡ moved old c.args.call.1) (ap image c.resume-debugger.ensures) (λ r e. ap image e) c.goto-answer.ensures.moves
    c.goto-answer.ensures.err)
    c.pause-debugger.ensures.fits

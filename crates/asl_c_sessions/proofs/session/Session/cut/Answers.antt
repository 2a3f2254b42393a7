use Rattle.std.proofs.Common.{◌≡◌, ap, subst, take}
use Rattle.asl_code.specs.declared.image.Image.{Image}
use Rattle.asl_debugger.specs.Session.{Session, recorded}
use Rattle.asl_debugger.specs.Paused.{IsSessionRestOf}
use Rattle.asl_c_sessions.proofs.Owners.{program_stays}
use Rattle.asl_c_sessions.proofs.session.Session.cut.Goals as goal

pub invariant_of-result : goal.invariant_of-result
invariant_of-result g c =
    let old = c.resume-debugger.result in
    let new = c.go_and_cut-answer.new.debugger in
    let image = λ (s : Session). s.image in
    subst (λ (i : Image). IsSessionRestOf i c.pause-debugger.result)
    (program_stays c.go_and_cut-answer.result c.self.inside.program old new
    (λ _. new ≡ recorded old (record { threads = old.log.threads; events = take c.args.call.1 old.log.events }) c.args.call.1)
    (ap image c.resume-debugger.ensures) (λ r e. ap image e) c.go_and_cut-answer.ensures.cuts c.go_and_cut-answer.ensures.err)
    c.pause-debugger.ensures.fits

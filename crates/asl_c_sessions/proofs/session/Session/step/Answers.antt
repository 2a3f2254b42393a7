use Rattle.std.proofs.Common.{◌≡◌, ◌+◌, ap, subst}
use Rattle.asl_code.specs.declared.image.Image.{Image}
use Rattle.asl_machine.specs.declared.reply.Reply.{Reply}
use Rattle.asl_journal.specs.Journal.{with_event}
use Rattle.asl_debugger.specs.Session.{Session, recorded}
use Rattle.asl_debugger.specs.Paused.{IsSessionRestOf}
use Rattle.asl_c_sessions.proofs.Owners.{program_stays}
use Rattle.asl_c_sessions.proofs.session.Session.step.Goals as goal

pub invariant_of-result : goal.invariant_of-result
invariant_of-result g c =
    let old = c.resume-debugger.result in
    let new = c.step-reply.new.self in
    let image = λ (s : Session). s.image in
    subst (λ (i : Image). IsSessionRestOf i c.pause-debugger.result)
    (program_stays c.step-reply.result c.self.inside.program old new
    (λ (reply : Reply). new ≡ recorded old (with_event old.log (record { thread = c.args.call.1; reply = reply })) (old.position + 1))
    (ap image c.resume-debugger.ensures) (λ r e. ap image e) c.step-reply.ensures.event c.step-reply.ensures.err)
    c.pause-debugger.ensures.fits

pub returns-clause-journal : goal.returns-clause-journal
returns-clause-journal g c =
    let old = c.resume-debugger.result in
    let new = c.step-reply.new.self in
    let image = λ (s : Session). s.image in
    let fits = subst (λ (i : Image). IsSessionRestOf i c.pause-debugger.result)
    (program_stays c.step-reply.result c.self.inside.program old new
    (λ (reply : Reply). new ≡ recorded old (with_event old.log (record { thread = c.args.call.1; reply = reply })) (old.position + 1))
    (ap image c.resume-debugger.ensures) (λ r e. ap image e) c.step-reply.ensures.event c.step-reply.ensures.err)
    c.pause-debugger.ensures.fits in
    fits.kept.journal

use Rattle.std.proofs.Common.{ap, sym, subst, ◌∙◌}
use Rattle.asl_lock_queue.specs.Waiting.{IsAbsent, is_absent}
use Rattle.asl_lock_queue.specs.Lines.{wanted_of}
use Rattle.asl_lock_queue.proofs.SeatLaws.{absent_line, absent_told}
use Rattle.asl_lock_queue.proofs.queue.Queue.is_absent.Goals as goal

pub returns-clause-value : goal.returns-clause-value
returns-clause-value c =
    let seats = c.self.inside.seats in
    c.is_out.ensures ∙ sym (absent_line (wanted_of seats) c.args.thread seats.line.items) ∙ ap (λ q. is_absent c.args.thread q.waiting) c.self.view_is

pub returns-clause-told : goal.returns-clause-told
returns-clause-told c told =
    let seats = c.self.inside.seats in
    subst (λ q. IsAbsent c.args.thread q.waiting) c.self.view_is (absent_told (wanted_of seats) c.args.thread seats.line.items (sym c.is_out.ensures ∙ told))

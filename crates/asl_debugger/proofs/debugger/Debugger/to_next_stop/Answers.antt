use Rattle.std.proofs.Common.{◌<◌, inl, inr, length, arith, ap}
use Rattle.asl_machine.specs.declared.reply.Reply.TheVariants.{Ran}
use Rattle.asl_journal.specs.declared.event.Event.{Event}
use Rattle.asl_debugger.specs.Session.{Session}
use Rattle.asl_debugger.proofs.Positions.{thread_there}
use Rattle.asl_debugger.proofs.Halts.{is_stop, is_no_stop, searching_next, found_next}
use Rattle.asl_debugger.proofs.debugger.Debugger.to_next_stop.Goals as goal
use Rattle.asl_debugger.proofs.debugger.Debugger.to_next_stop.Goals.{else-loop-position-test, then-loop-position-test+then-is_at_break}

pub is_at_break-requires : goal.is_at_break-requires
is_at_break-requires g c =
    let d = c.self.inside in
    let at = rw (← c.self.view_is) at c.loop-position.invariant.at in
    rw c.events-events.ensures.events (thread_there d.machine.image d.journal c.loop-position.position c.loop-position.machine at c.events-events.ensures.log c.loop-position.position (record { thread = 0; reply = Ran })
    (let len = ap (λ es. length es) c.events-events.ensures.events in omega (arith, len)))

pub loop-position-preserved : goal.loop-position-preserved
loop-position-preserved g c =
    let d = c.self.inside in
    let session : Session = record { image = d.machine.image; log = d.journal; position = d.position; breakpoints = d.breakpoints.items } in
    let first : Event = record { thread = 0; reply = Ran } in
    let so_far = rw (← c.self.view_is) at c.loop-position.invariant in
    let len = ap (λ es. length es) c.events-events.ensures.events in
    let lt : c.loop-position.position < length d.journal.events = omega (arith, len) in
    let away = rw (c.as_slice.ensures.value, c.events-events.ensures.events) at c.if-is_at_break.ensures in
    let made = rw so_far.at at c.in_ok-make_event-2.ensures.made in
    rw (← c.self.view_is) (searching_next session c.loop-position.machine c.make_event-in-loop-position.new.machine c.loop-position.position lt so_far
    (is_no_stop session c.loop-position.position first c.loop-position.machine lt so_far.at away) made)

pub returns-clause-stop : goal.returns-clause-stop
returns-clause-stop g c =
    let d = c.self.inside in
    let session : Session = record { image = d.machine.image; log = d.journal; position = d.position; breakpoints = d.breakpoints.items } in
    let first : Event = record { thread = 0; reply = Ran } in
    let so_far = rw (← c.self.view_is) at c.loop-position.invariant in
    let len = ap (λ es. length es) c.events-events.ensures.events in
    rw (← c.self.view_is) (found_next session c.loop-position.machine c.loop-position.position so_far
    (elim c.loop-position-test.branch [
      | else-loop-position-test w ↦ inr (let within = so_far.within in omega (arith, len, w.loop-position-test.false))
      | then-loop-position-test+then-is_at_break w ↦
          let lt : c.loop-position.position < length d.journal.events = omega (arith, len, w.loop-position-test.true) in
          let stops = rw (w.as_slice.ensures.value, c.events-events.ensures.events) at w.if-is_at_break.ensures in
          inl (is_stop session c.loop-position.position first c.loop-position.machine lt so_far.at stops)
    ]))

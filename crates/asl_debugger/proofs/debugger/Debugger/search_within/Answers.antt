use Rattle.std.proofs.Common.{arith}
use Rattle.asl_machine.specs.declared.reply.Reply.TheVariants.{Ran}
use Rattle.asl_journal.specs.declared.event.Event.{Event}
use Rattle.asl_debugger.specs.Session.{Session}
use Rattle.asl_debugger.proofs.Positions.{thread_there}
use Rattle.asl_debugger.proofs.Halts.{is_stop, is_no_stop, found_here, found_not_here}
use Rattle.asl_debugger.proofs.debugger.Debugger.search_within.Goals as goal
use Rattle.asl_debugger.proofs.debugger.Debugger.search_within.Goals.{then-is_at_break, else-is_at_break}

pub is_at_break-requires : goal.is_at_break-requires
is_at_break-requires g c =
    let d = c.self.inside in
    let within = rw (← c.self.view_is) at c.requires.within in
    let at = rw (← c.self.view_is) at c.loop-k.invariant.at in
    rw c.events.ensures.events (thread_there d.machine.image d.journal c.loop-k.k c.loop-k.machine at c.events.ensures.log c.loop-k.k (record { thread = 0; reply = Ran }) (omega arith))

pub loop-k-preserved : goal.loop-k-preserved
loop-k-preserved g c =
    let d = c.self.inside in
    let session : Session = record { image = d.machine.image; log = d.journal; position = d.position; breakpoints = d.breakpoints.items } in
    let first : Event = record { thread = 0; reply = Ran } in
    let within = rw (← c.self.view_is) at c.requires.within in
    let at = rw (← c.self.view_is) at c.loop-k.invariant.at in
    let found = rw (← c.self.view_is) at c.loop-k.invariant.found in
    let made = rw at at c.in_ok-make_event.ensures.made in
    rw (← c.self.view_is) (record {
      at = made;
      found = elim c.if-is_at_break.branch [
        | then-is_at_break w ↦
            let stops = rw (c.as_slice.ensures.value, c.events.ensures.events) at w.if-is_at_break.ensures in
            rw w.found-is (found_here session c.args.start c.loop-k.k (omega arith) (is_stop session c.loop-k.k first c.loop-k.machine (omega arith) at stops))
        | else-is_at_break w ↦
            let away = rw (c.as_slice.ensures.value, c.events.ensures.events) at w.if-is_at_break.ensures in
            rw w.found-is (found_not_here session c.args.start c.loop-k.k c.loop-k.found found (is_no_stop session c.loop-k.k first c.loop-k.machine (omega arith) at away))
      ];
    })

use Rattle.std.proofs.Common.{take}
use Rattle.asl_loader.specs.Writing.{WritesEach}
use Rattle.asl_journal.specs.declared.event.Event.{Event}
use Rattle.asl_journal.specs.Bytes.{event_fields, IsReply}
use Rattle.asl_journal.proofs.journal_writing.put_events.Given as goal

abbrev pub invariant-loop-event : goal.invariant-loop-event
invariant-loop-event l = WritesEach Event (λ event. IsReply event.reply) event_fields l.initial.out.items l.out.items (take l.event-index l.events)

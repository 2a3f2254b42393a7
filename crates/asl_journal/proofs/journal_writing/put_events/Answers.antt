use Rattle.asl_loader.proofs.Writes.{none_written, more_at, all_written}
use Rattle.asl_journal.specs.declared.event.Event.{Event}
use Rattle.asl_journal.specs.Bytes.{event_fields, IsReply}
use Rattle.asl_journal.proofs.journal_writing.put_events.Goals as goal

pub loop-event-init : goal.loop-event-init
loop-event-init c = none_written Event (λ event. IsReply event.reply) event_fields c.args.out.now.items

pub loop-event-preserved : goal.loop-event-preserved
loop-event-preserved c = more_at Event (λ event. IsReply event.reply) event_fields c.args.out.now.items c.loop-event.out.items c.put_event.new.out.items c.args.events.now c.loop-event.event-index _ c.loop-event-test.true c.loop-event.invariant c.in_ok-put_event.ensures

pub returns : goal.returns
returns c = all_written Event (λ event. IsReply event.reply) event_fields c.args.out.now.items c.loop-event.out.items c.args.events.now c.loop-event.event-index c.loop-event-test.false c.loop-event.invariant

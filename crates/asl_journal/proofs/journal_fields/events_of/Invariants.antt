use Rattle.asl_loader.specs.SharedFields.{IsKept}
use Rattle.asl_loader.specs.ImageFields.{items_at}
use Rattle.asl_loader.proofs.Loop.{Kept}
use Rattle.asl_journal.specs.declared.event.Event.{Event}
use Rattle.asl_journal.specs.JournalFields.{event_at}
use Rattle.asl_journal.proofs.journal_fields.events_of.Given as goal

abbrev pub invariant-loop : goal.invariant-loop
invariant-loop l = Kept Event (event_at l.threads) (IsKept l.events) l.count l.counter l.rest (items_at (event_at l.threads) l.count l.bytes)

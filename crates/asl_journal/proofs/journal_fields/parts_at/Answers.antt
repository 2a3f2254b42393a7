use Rattle.std.proofs.Common.{refl}
use Rattle.asl_journal.specs.JournalFields.{log_at}
use Rattle.asl_journal.proofs.Kept.{kept_log}
use Rattle.asl_journal.proofs.journal_fields.parts_at.Goals as goal

-- each part was read where the part before it ended
pub returns : goal.returns
unfolding log_at
returns c =
    let e = c.in_ok-events.ensures in (
      record { threads = c.in_ok-threads.threads; events = e.0 },
      kept_log c.in_ok-threads.threads c.in_ok-events.events e.0 e.1,
      rw (c.in_ok-_letters.ensures, c.in_ok-version.ensures, c.in_ok-threads.ensures, c.in_ok-count.ensures, e.2) refl,
    )

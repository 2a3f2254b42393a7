use Rattle.std.proofs.Common.{arith, subst}
use Rattle.asl_journal.specs.Journal.{IsLog}
use Rattle.asl_journal.proofs.Kept.{kept_is}
use Rattle.asl_journal.proofs.Logs.{log_reads}
use Rattle.asl_journal.proofs.journal_bytes.journal_at.Goals as goal

pub from_parts-requires : goal.from_parts-requires
from_parts-requires c =
    let read = c.in_ok-threads.ensures in
    let found = log_reads.found c.args.bytes.now read.0 c.in_ok-threads.rest.now (λ i. omega (arith, c.type_inv.bytes i)) read.2 in
    let same = kept_is c.in_ok-threads.threads c.in_ok-threads.events c.in-Some.events read.0 c.in-Some.is read.1 in
    rw c.into_vec.ensures (subst IsLog same found.0.is_log)

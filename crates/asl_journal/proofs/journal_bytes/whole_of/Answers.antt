use Rattle.std.proofs.Common.{arith}
use Rattle.asl_loader.proofs.Whole.{rest_within, left_within}
use Rattle.asl_journal.specs.Bytes.{log_fields, HasBytes}
use Rattle.asl_journal.specs.Journal.{Log}
use Rattle.asl_journal.specs.JournalFields.{log_at}
use Rattle.asl_journal.specs.declared.fault.JournalFault.{JournalFault}
use Rattle.asl_journal.proofs.Logs.{log_reads}
use Rattle.asl_journal.proofs.journal_bytes.whole_of.Goals as goal

pub overflow_sub-result : goal.overflow_sub-result
overflow_sub-result c = rest_within Log JournalFault HasBytes log_fields log_at log_reads c.args.bytes.now c.in-Ok.ensures.0 c.in-Ok.rest.now (λ i. omega (arith, c.type_inv.bytes i)) c.in-Ok.ensures.2

pub overflow_sub-bytes : goal.overflow_sub-bytes
overflow_sub-bytes c =
    let stopped = rw c.in-Err-Bad.field-0-is at c.in-Err-Bad.ensures in
    left_within Log JournalFault HasBytes log_fields log_at log_reads c.args.bytes.now c.in-Err-Bad.left (λ i. omega (arith, c.type_inv.bytes i)) stopped

use Rattle.std.proofs.Common.{arith}
use Rattle.asl_journal.proofs.Ran.{ran_read}
use Rattle.asl_journal.proofs.journal_fields.event_at.Goals as goal

pub returns : goal.returns
returns c = ran_read c.args.threads c.args.bytes.now c.in-len2-up.len_at_least c.if-reply-eq-RAN.true (omega (arith, c.from.ensures, c.if-from-threads.true))

use Rattle.std.proofs.Common.{arith}
use Rattle.asl_code.specs.Versions.{version_for}
use Rattle.asl_code.proofs.Versions.{small_version, version_is_there}
use Rattle.asl_journal.proofs.Written.{log_written}
use Rattle.asl_journal.proofs.journal_writing.put.Goals as goal

pub overflow_cast-version_for : goal.overflow_cast-version_for
overflow_cast-version_for c = let small = small_version (version_for c.threads.result) (version_is_there c.threads.result) in omega (arith, small, c.version_for.ensures)

pub returns : goal.returns
returns c =
    log_written c.args.journal.now c.extend_from_slice.new.self.items c.put_two.new.out.items c.put_byte.new.out.items c.put_four.new.out.items c.put_events.new.out.items
    c.threads.ensures.log (rw c.new-out.ensures.items at c.in_ok-extend_from_slice.ensures.items) (rw (c.version_for.ensures, c.threads.ensures.threads) at c.in_ok-put_two.ensures.added) (rw c.threads-2.ensures.threads at c.in_ok-put_byte.ensures.added)
    (rw c.events.ensures.events at c.in_ok-put_four.ensures) (rw c.events-2.ensures.events at c.in_ok-put_events.ensures)

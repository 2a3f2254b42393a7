use Rattle.std.proofs.Common.{sym}
use Rattle.asl_check.proofs.Reading.{covered_lock, bare_in_list}
use Rattle.asl_check.proofs.bare_reads.first_bare_read.Goals as goal

pub returns-in-Some : goal.returns-in-Some
returns-in-Some c =
    bare_in_list c.args.classes.now c.args.function c.args.list.now c.loop-lock.lock-index c.lock-item.result c.in-Some.read c.loop-lock-test.true (sym c.lock-item.is) c.loop-lock.invariant c.in-Some.ensures

pub loop-lock-preserved : goal.loop-lock-preserved
loop-lock-preserved c =
    covered_lock c.args.classes.now c.args.function c.args.list.now c.loop-lock.lock-index c.lock-item.result c.loop-lock-test.true (sym c.lock-item.is) c.loop-lock.invariant c.in_default.ensures

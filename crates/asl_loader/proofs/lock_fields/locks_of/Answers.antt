use Rattle.std.proofs.Common.{nat_le}
use Rattle.std.proofs.lemmas.Result.{err_from_is_err_and}
use Rattle.asl_code.specs.declared.lock.Lock.{Lock}
use Rattle.asl_code.specs.Versions.{newest_locks}
use Rattle.asl_loader.specs.ImageFields.{items_at, lock_at}
use Rattle.asl_loader.proofs.Lists.{HoldsLocks, locks_read}
use Rattle.asl_loader.proofs.Loop.{kept_more, kept_ends}
use Rattle.asl_loader.proofs.lock_fields.locks_of.Goals as goal

pub returns-in_err-lock : goal.returns-in_err-lock
returns-in_err-lock c =
    let p = err_from_is_err_and c.from_residual.result c.from_residual.ensures.1 in
    rw (p.1, p.2) (kept_ends Lock lock_at c.in_err-lock.field-0.0 (HoldsLocks c.args.count c.loop.locks) c.args.count c.loop.counter c.loop.rest.now (items_at lock_at c.args.count c.args.bytes.now) c.loop.invariant c.loop-test.true c.in_err-lock.ensures)

pub loop-preserved : goal.loop-preserved
loop-preserved c = kept_more Lock lock_at (HoldsLocks c.args.count c.loop.locks) (HoldsLocks c.args.count c.with_more-locks.result) c.args.count c.loop.counter c.loop.rest.now c.in_ok-lock.lock c.in_ok-lock.after.now (items_at lock_at c.args.count c.args.bytes.now) c.loop.invariant c.loop-test.true c.in_ok-lock.ensures (λ front is. c.with_more-locks.ensures (nat_le c.args.count newest_locks) front is)

pub returns : goal.returns
returns c = locks_read c.loop.locks c.args.count c.loop.counter c.args.bytes.now c.loop.rest.now c.loop.invariant c.loop-test.false

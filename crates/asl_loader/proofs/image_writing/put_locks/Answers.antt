use Rattle.asl_code.specs.declared.lock.Lock.{Lock}
use Rattle.asl_loader.specs.Bytes.{lock_fields, IsLock}
use Rattle.asl_loader.proofs.Writes.{none_written, more_written, all_written}
use Rattle.asl_loader.proofs.image_writing.put_locks.Goals as goal

pub loop-lock-init : goal.loop-lock-init
loop-lock-init c = none_written Lock IsLock lock_fields c.args.out.now.items

pub loop-lock-preserved : goal.loop-lock-preserved
loop-lock-preserved c = more_written Lock IsLock lock_fields c.args.out.now.items c.loop-lock.out.items c.put_lock.new.out.items c.args.locks.now c.loop-lock.lock-index c.lock-item.result c.loop-lock-test.true c.lock-item.is c.loop-lock.invariant c.in_ok-put_lock.ensures

pub returns : goal.returns
returns c = all_written Lock IsLock lock_fields c.args.out.now.items c.loop-lock.out.items c.args.locks.now c.loop-lock.lock-index c.loop-lock-test.false c.loop-lock.invariant

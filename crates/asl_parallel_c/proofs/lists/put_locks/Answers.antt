use Rattle.std.proofs.Common.{refl}
use Rattle.asl_parallel_c.specs.Lists.{lock_lines}
use Rattle.asl_parallel_c.proofs.Rows.{item_done, all_done}
use Rattle.asl_parallel_c.proofs.lists.put_locks.Goals as goal

pub loop-lock-init : goal.loop-lock-init
loop-lock-init g c = refl

pub loop-lock-preserved : goal.loop-lock-preserved
loop-lock-preserved g c = item_done lock_lines lock_lines _ _ c.loop-lock.text.items c.put_lock.new.text.items c.args.locks.now c.loop-lock.lock-index c.lock-item.result c.loop-lock-test.true c.lock-item.is c.loop-lock.invariant c.in_ok-put_lock.ensures.written refl

pub returns-clause-written : goal.returns-clause-written
returns-clause-written g c = all_done lock_lines lock_lines _ c.loop-lock.text.items c.args.locks.now c.loop-lock.lock-index c.loop-lock-test.false refl c.loop-lock.invariant

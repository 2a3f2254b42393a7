use Rattle.asl_code.specs.declared.lock.Lock.{Lock}
use Rattle.asl_assembler.specs.Writing.{FitsLockLine, lock_text}
use Rattle.asl_assembler.specs.declared.line.Line.TheVariants as line
use Rattle.asl_assembler.proofs.Prints.{as_line}
use Rattle.asl_assembler.proofs.Writes.{none_written, more_written, all_written}
use Rattle.asl_assembler.proofs.disassembly.put_locks.Goals as goal

pub loop-lock-init : goal.loop-lock-init
loop-lock-init c = none_written Lock FitsLockLine lock_text c.args.text.now.items

pub loop-lock-preserved : goal.loop-lock-preserved
loop-lock-preserved c = more_written Lock FitsLockLine lock_text c.args.text.now.items c.loop-lock.text.items c.put_lock.new.text.items c.args.locks.now c.loop-lock.lock-index c.lock-item.result c.loop-lock-test.true c.lock-item.is c.loop-lock.invariant (as_line Lock line.Lock c.loop-lock.text.items c.put_lock.new.text.items c.lock-item.result c.in_ok-put_lock.ensures)

pub returns : goal.returns
returns c = all_written Lock FitsLockLine lock_text c.args.text.now.items c.loop-lock.text.items c.args.locks.now c.loop-lock.lock-index c.loop-lock-test.false c.loop-lock.invariant

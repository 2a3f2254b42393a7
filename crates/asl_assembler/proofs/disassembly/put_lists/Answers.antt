use Rattle.std.specs.Prelude.{List}
use Rattle.asl_code.specs.declared.lock.Lock.{Lock}
use Rattle.asl_assembler.specs.Writing.{FitsListLines, list_text}
use Rattle.asl_assembler.proofs.Writes.{none_written, more_written, all_written}
use Rattle.asl_assembler.proofs.disassembly.put_lists.Goals as goal

pub loop-list-init : goal.loop-list-init
loop-list-init c = none_written (List Lock) FitsListLines list_text c.args.text.now.items

pub loop-list-preserved : goal.loop-list-preserved
loop-list-preserved c = more_written (List Lock) FitsListLines list_text c.args.text.now.items c.loop-list.text.items c.put_list.new.text.items c.args.lists.now c.loop-list.list-index c.list-item.result c.loop-list-test.true c.list-item.is c.loop-list.invariant (rw c.as_slice.ensures at c.in_ok-put_list.ensures)

pub returns : goal.returns
returns c = all_written (List Lock) FitsListLines list_text c.args.text.now.items c.loop-list.text.items c.args.lists.now c.loop-list.list-index c.loop-list-test.false c.loop-list.invariant
